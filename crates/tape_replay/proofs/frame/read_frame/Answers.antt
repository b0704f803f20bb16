-- `tape_replay::frame::read_frame` meets its contract, test by test. Assumes nothing.
use Rattle.std.specs.Prelude.{Some}
use Rattle.std.proofs.Common.{◌≡◌, ◌∙◌}
use Rattle.tape_replay.specs.Frame.{frame_of}
use Rattle.tape_replay.proofs.Laws.Frame.{no_length, tape-long, tape-cut, output-long, output-cut, whole}
use Rattle.tape_replay.proofs.frame.read_frame.Goals as goal

pub returns-then-bytes-lt-WORD-clause-reading : goal.returns-then-bytes-lt-WORD-clause-reading
returns-then-bytes-lt-WORD-clause-reading c = no_length c.args.bytes.now c.if-bytes-lt-WORD.true

pub returns-then-tape-gt-LONGEST-clause-reading : goal.returns-then-tape-gt-LONGEST-clause-reading
returns-then-tape-gt-LONGEST-clause-reading c = tape-long c.args.bytes.now c.if-bytes-lt-WORD.false c.word_at-tape.ensures c.if-tape-gt-LONGEST.true

pub returns-then-bytes-from-clause-reading : goal.returns-then-bytes-from-clause-reading
returns-then-bytes-from-clause-reading c = tape-cut c.args.bytes.now c.if-bytes-lt-WORD.false c.word_at-tape.ensures c.if-tape-gt-LONGEST.false c.if-bytes-from.true

pub returns-then-output-gt-LONGEST-clause-reading : goal.returns-then-output-gt-LONGEST-clause-reading
returns-then-output-gt-LONGEST-clause-reading c =
    output-long c.args.bytes.now c.if-bytes-lt-WORD.false c.word_at-tape.ensures c.if-tape-gt-LONGEST.false c.if-bytes-from.false c.word_at-output.ensures c.if-output-gt-LONGEST.true

pub returns-then-bytes-from-2-clause-reading : goal.returns-then-bytes-from-2-clause-reading
returns-then-bytes-from-2-clause-reading c =
    output-cut c.args.bytes.now c.if-bytes-lt-WORD.false c.word_at-tape.ensures c.if-tape-gt-LONGEST.false c.if-bytes-from.false c.word_at-output.ensures c.if-output-gt-LONGEST.false c.if-bytes-from-2.true

pub returns-clause-reading : goal.returns-clause-reading
returns-clause-reading c =
    let l = c.args.bytes.now in
    let t = c.word_at-tape.result in
    let o = c.word_at-output.result in
    let made : Some (record { tape = t; ending = record { number = c.word_at.result; place = c.word_at-2.result; output = o } }) ≡ Some (frame_of l t o) = λ j. Some (record { tape = t; ending = record { number = c.word_at.ensures j; place = c.word_at-2.ensures j; output = o } }) in
    made ∙ whole l c.if-bytes-lt-WORD.false c.word_at-tape.ensures c.if-tape-gt-LONGEST.false c.if-bytes-from.false c.word_at-output.ensures c.if-output-gt-LONGEST.false c.if-bytes-from-2.false
