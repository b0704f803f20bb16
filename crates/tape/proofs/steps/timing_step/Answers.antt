-- `tape::timing_step` meets its contract: by which fields are whole, and by what the set-up answers. Assumes nothing.
use mathlib.Core.Path.{◌≡◌, sym, ap, ◌∙◌}
use mathlib.Core.Bool.{true, not}
use mathlib.Core.List.{List}
use Prim.Native.Nat.{ℕ, ◌≤◌}
use lib.ListN.{length}
use Rattle.checks.proofs.Laws.Rows.{passes, fails}
use Rattle.timing.specs.declared.params.Ted.{Ted}
use Rattle.complex_sync.specs.Views.{SetUp}
use Rattle.timing.specs.declared.params.TimingValues.{TimingValues}
use Rattle.receiver.specs.Loops.{timing_opened}
use Rattle.plain.specs.Codes.{detector_of, detector_named}
use Rattle.tape.specs.declared.desk.Desk.{Desk}
use Rattle.tape.specs.declared.answer.Step.{Step}
use Rattle.tape.specs.declared.answer.Step.TheVariants.{Done}
use Rattle.tape.specs.Reading.{byte_at, timing_values, Reading, unfinished, timing_read}
use Rattle.tape.specs.Steps.{timing_answered, acted, answer_of}
use Rattle.tape.proofs.Laws.Steps.{behind-short, selected-undefined, selected-short, selected-whole}
use Rattle.tape.proofs.steps.timing_step.Goals as goal

-- all fields are whole: the loop's own set-up decides
decided : (d : Desk) (l : List ℕ) {a : SetUp} {k : Ted} {v : TimingValues} → 2 ≤ length l → detector_named (byte_at l 1) ≡ true → 42 ≤ length l
    → a ≡ timing_opened v → v ≡ timing_values k l → k ≡ detector_of (byte_at l 1) → answer_of 0 (timing_answered d a) ≡ answer_of 0 (acted d (timing_read l))
unfolding timing_read
decided d l two named whole e f g =
    let by : SetUp → Step = λ (x : SetUp). answer_of 0 (timing_answered d x) in
    ap by e
    ∙ ap (λ (v : TimingValues). by (timing_opened v)) (f ∙ ap (λ (ted : Ted). timing_values ted l) g)
    ∙ ap (λ (x : Reading). answer_of 0 (acted d x)) (sym (selected-whole _ 42 l _ two named whole))

pub returns-then-bytes-lt-SELECTOR_END-clause-outcome : goal.returns-then-bytes-lt-SELECTOR_END-clause-outcome
unfolding timing_read
returns-then-bytes-lt-SELECTOR_END-clause-outcome c = ap (λ (x : Reading). answer_of 0 (acted c.args.desk x)) (sym (behind-short unfinished 2 c.args.bytes.now _ c.if-bytes-lt-SELECTOR_END.true))

pub returns-then-not-detector_named-clause-outcome : goal.returns-then-not-detector_named-clause-outcome
unfolding timing_read
returns-then-not-detector_named-clause-outcome c =
    let a = c.args in
    c.refuse.ensures ∙ ap (λ (x : Reading). answer_of 0 (acted a.desk x)) (sym (selected-undefined _ 42 a.bytes.now _ c.if-bytes-lt-SELECTOR_END.false (fails c.detector_named.ensures (ap not c.if-not-detector_named.true))))

pub returns-then-bytes-lt-TIMING_END-clause-outcome : goal.returns-then-bytes-lt-TIMING_END-clause-outcome
unfolding timing_read
returns-then-bytes-lt-TIMING_END-clause-outcome c =
    let a = c.args in
    ap (λ (x : Reading). answer_of 0 (acted a.desk x)) (sym (selected-short _ 42 a.bytes.now _ c.if-bytes-lt-SELECTOR_END.false (passes c.detector_named.ensures (ap not c.if-not-detector_named.false)) c.if-bytes-lt-TIMING_END.true))

pub returns-in-Ok-clause-outcome : goal.returns-in-Ok-clause-outcome
returns-in-Ok-clause-outcome c =
    let a = c.args in
    c.silent.ensures
    ∙ (λ j. Done (record { desk = c.with_timing.ensures.desk j; used = 42; written = 0 }))
    ∙ decided a.desk a.bytes.now c.if-bytes-lt-SELECTOR_END.false (passes c.detector_named.ensures (ap not c.if-not-detector_named.false)) c.if-bytes-lt-TIMING_END.false c.in-Ok.ensures.outcome c.timing_values.ensures c.detector.ensures

pub returns-in-Err-clause-outcome : goal.returns-in-Err-clause-outcome
returns-in-Err-clause-outcome c =
    let a = c.args in
    c.refuse-in-Err.ensures
    ∙ decided a.desk a.bytes.now c.if-bytes-lt-SELECTOR_END.false (passes c.detector_named.ensures (ap not c.if-not-detector_named.false)) c.if-bytes-lt-TIMING_END.false c.in-Err.ensures.outcome c.timing_values.ensures c.detector.ensures
