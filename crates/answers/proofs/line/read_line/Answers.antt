-- `answers::read_line` meets its contract: by the length, the four bytes between the words, and the words.
-- Assumes nothing.
use Rattle.std.proofs.Common.{◌∙◌, get_or}
use Rattle.answers.specs.Line.{asking, word_at}
use Rattle.answers.proofs.Laws.Line.{other-length, not_apart, words-asked}
use Rattle.answers.proofs.line.read_line.Goals as goal
use Rattle.answers.proofs.line.read_line.Goals.{then-line-ne53-via-then-line-ne53, then-line-ne53-via-else-line-ne53+then-not-is_spaced}

pub returns-then-line-ne53 : goal.returns-then-line-ne53
returns-then-line-ne53 c =
    elim c.then-line-ne53.branch [
      | then-line-ne53-via-then-line-ne53 w ↦ other-length c.args.line.now w.if-line-ne53.true
      | then-line-ne53-via-else-line-ne53+then-not-is_spaced w ↦ not_apart c.args.line.now w.if-line-ne53.false w.is_spaced.ensures w.if-not-is_spaced.true
    ]

pub returns-in_err-read_word : goal.returns-in_err-read_word
returns-in_err-read_word c =
    let l = c.args.line.now in
    c.from_residual.ensures
    ∙ (λ j. asking (get_or l 0 0) (c.in_err-read_word.ensures j) (word_at l 19) (word_at l 36))
    ∙ words-asked l c.if-line-ne53.false c.is_spaced.ensures c.if-not-is_spaced.false

pub returns-in_err-read_word-2 : goal.returns-in_err-read_word-2
returns-in_err-read_word-2 c =
    let l = c.args.line.now in
    c.from_residual-in_err-read_word-2.ensures
    ∙ (λ j. asking (get_or l 0 0) (c.in_ok-read_word.ensures j) (c.in_err-read_word-2.ensures j) (word_at l 36))
    ∙ words-asked l c.if-line-ne53.false c.is_spaced.ensures c.if-not-is_spaced.false

pub returns-in_err-read_word-3 : goal.returns-in_err-read_word-3
returns-in_err-read_word-3 c =
    let l = c.args.line.now in
    c.from_residual-in_err-read_word-3.ensures
    ∙ (λ j. asking (get_or l 0 0) (c.in_ok-read_word.ensures j) (c.in_ok-read_word-2.ensures j) (c.in_err-read_word-3.ensures j))
    ∙ words-asked l c.if-line-ne53.false c.is_spaced.ensures c.if-not-is_spaced.false

pub returns : goal.returns
returns c =
    let l = c.args.line.now in
    (λ j. asking (get_or l 0 0) (c.in_ok-read_word.ensures j) (c.in_ok-read_word-2.ensures j) (c.in_ok-read_word-3.ensures j))
    ∙ words-asked l c.if-line-ne53.false c.is_spaced.ensures c.if-not-is_spaced.false
