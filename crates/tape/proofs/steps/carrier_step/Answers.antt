-- `tape::carrier_step` meets its contract: by which fields are whole, and by what the set-up answers. Assumes nothing.
use mathlib.Core.Path.{◌≡◌, sym, ap, ◌∙◌}
use mathlib.Core.Bool.{true, not}
use mathlib.Core.List.{List}
use Prim.Native.Nat.{ℕ, ◌≤◌}
use lib.ListN.{length}
use Rattle.checks.proofs.Laws.Rows.{passes, fails}
use Rattle.constellations.specs.declared.kinds.CostasConstellation.{CostasConstellation}
use Rattle.carrier.specs.State.{SetUp}
use Rattle.carrier.specs.declared.params.CarrierValues.{CarrierValues}
use Rattle.receiver.specs.Loops.{carrier_opened}
use Rattle.plain.specs.Codes.{constellation_of, constellation_named}
use Rattle.tape.specs.declared.desk.Desk.{Desk}
use Rattle.tape.specs.declared.answer.Step.{Step}
use Rattle.tape.specs.declared.answer.Step.TheVariants.{Done}
use Rattle.tape.specs.Reading.{byte_at, carrier_values, Reading, unfinished, carrier_read}
use Rattle.tape.specs.Steps.{carrier_answered, acted, answer_of}
use Rattle.tape.proofs.Laws.Steps.{behind-short, selected-undefined, selected-short, selected-whole}
use Rattle.tape.proofs.steps.carrier_step.Goals as goal

-- all fields are whole: the loop's own set-up decides
decided : (d : Desk) (l : List ℕ) {a : SetUp} {k : CostasConstellation} {v : CarrierValues} → 2 ≤ length l → constellation_named (byte_at l 1) ≡ true → 26 ≤ length l
    → a ≡ carrier_opened k v → k ≡ constellation_of (byte_at l 1) → v ≡ carrier_values l → answer_of 0 (carrier_answered d a) ≡ answer_of 0 (acted d (carrier_read l))
unfolding carrier_read
decided d l two named whole e f g =
    let by : SetUp → Step = λ (x : SetUp). answer_of 0 (carrier_answered d x) in
    ap by e
    ∙ (λ j. by (carrier_opened (f j) (g j)))
    ∙ ap (λ (x : Reading). answer_of 0 (acted d x)) (sym (selected-whole _ 26 l _ two named whole))

pub returns-then-bytes-lt-SELECTOR_END-clause-outcome : goal.returns-then-bytes-lt-SELECTOR_END-clause-outcome
unfolding carrier_read
returns-then-bytes-lt-SELECTOR_END-clause-outcome c = ap (λ (x : Reading). answer_of 0 (acted c.args.desk x)) (sym (behind-short unfinished 2 c.args.bytes.now _ c.if-bytes-lt-SELECTOR_END.true))

pub returns-then-not-constellation_named-clause-outcome : goal.returns-then-not-constellation_named-clause-outcome
unfolding carrier_read
returns-then-not-constellation_named-clause-outcome c =
    let a = c.args in
    c.refuse.ensures ∙ ap (λ (x : Reading). answer_of 0 (acted a.desk x)) (sym (selected-undefined _ 26 a.bytes.now _ c.if-bytes-lt-SELECTOR_END.false (fails c.constellation_named.ensures (ap not c.if-not-constellation_named.true))))

pub returns-then-bytes-lt-CARRIER_END-clause-outcome : goal.returns-then-bytes-lt-CARRIER_END-clause-outcome
unfolding carrier_read
returns-then-bytes-lt-CARRIER_END-clause-outcome c =
    let a = c.args in
    ap (λ (x : Reading). answer_of 0 (acted a.desk x)) (sym (selected-short _ 26 a.bytes.now _ c.if-bytes-lt-SELECTOR_END.false (passes c.constellation_named.ensures (ap not c.if-not-constellation_named.false)) c.if-bytes-lt-CARRIER_END.true))

pub returns-in-Ok-clause-outcome : goal.returns-in-Ok-clause-outcome
returns-in-Ok-clause-outcome c =
    let a = c.args in
    c.silent.ensures
    ∙ (λ j. Done (record { desk = c.with_carrier.ensures.desk j; used = 26; written = 0 }))
    ∙ decided a.desk a.bytes.now c.if-bytes-lt-SELECTOR_END.false (passes c.constellation_named.ensures (ap not c.if-not-constellation_named.false)) c.if-bytes-lt-CARRIER_END.false c.in-Ok.ensures.outcome c.constellation.ensures c.carrier_values.ensures

pub returns-in-Err-clause-outcome : goal.returns-in-Err-clause-outcome
returns-in-Err-clause-outcome c =
    let a = c.args in
    c.refuse-in-Err.ensures
    ∙ decided a.desk a.bytes.now c.if-bytes-lt-SELECTOR_END.false (passes c.constellation_named.ensures (ap not c.if-not-constellation_named.false)) c.if-bytes-lt-CARRIER_END.false c.in-Err.ensures.outcome c.constellation.ensures c.carrier_values.ensures
