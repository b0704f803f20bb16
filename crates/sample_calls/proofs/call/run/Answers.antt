-- `sample_calls::run` meets its contract: an odd buffer is refused, then lengths that differ, and else the call is
-- what `accepted` ensures. Assumes nothing.
use Rattle.std.specs.Prelude.{Err}
use mathlib.Core.Path.{◌≡◌, sym, ap, ◌∙◌, subst}
use mathlib.Core.Bool.{true}
use mathlib.Core.List.{List}
use lib.Ieee.{Float}
use Rattle.values.specs.declared.error.Refusal.{Refusal}
use Rattle.values.specs.declared.error.Refusal.TheVariants.{Uneven, Odd}
use Rattle.sample_calls.specs.declared.call.Ran.{Ran}
use Rattle.receiver.specs.Record.{Receiver, Given}
use Rattle.sample_calls.specs.Call.{Outcome, answered, refused_call, odd_any, called}
use Rattle.sample_calls.proofs.Laws.Refused.{odd-in-input, odd-in-strobes, odd-in-output, all-even, called-odd, called-uneven, called-done}
use Rattle.sample_calls.proofs.Laws.Given.{called-given}
use Rattle.sample_calls.proofs.call.run.Goals as goal
use Rattle.sample_calls.proofs.call.run.Goals.{then-input-eq1-via-then-input-eq1, then-input-eq1-via-else-input-eq1+then-strobes-eq1, then-input-eq1-via-else-input-eq1+else-strobes-eq1+then-output-eq1}

-- an outcome that is the call's, with its receiver given
kept : (r : Receiver) (xs ws ys : List Float) → Given r → {o : Outcome} → o ≡ called r xs ws ys → (o ≡ called r xs ws ys) × Given o.receiver
kept r xs ws ys g e = (e, subst (λ (q : Outcome). Given q.receiver) (sym e) (called-given r xs ws ys g))

-- a refusal that the definition gives too
refuses : (r : Receiver) (xs ws ys : List Float) → Given r → (z : Ran) (why : Refusal) → z ≡ record { answer = Err why; receiver = r } → called r xs ws ys ≡ refused_call why r ws ys
    → (answered z ws ys ≡ called r xs ws ys) × Given z.receiver
refuses r xs ws ys g z why e d = kept r xs ws ys g (ap (λ (x : Ran). answered x ws ys) e ∙ sym d)

pub returns-then-input-eq1 : goal.returns-then-input-eq1
returns-then-input-eq1 c =
    let a = c.args in
    let xs = a.input.now in
    let ws = a.strobes.now in
    let ys = a.output.now in
    let odd : odd_any xs ws ys ≡ true = elim c.then-input-eq1.branch [
      | then-input-eq1-via-then-input-eq1 w ↦ odd-in-input xs ws ys w.if-input-eq1.true
      | then-input-eq1-via-else-input-eq1+then-strobes-eq1 w ↦ odd-in-strobes xs ws ys w.if-strobes-eq1.true
      | then-input-eq1-via-else-input-eq1+else-strobes-eq1+then-output-eq1 w ↦ odd-in-output xs ws ys w.if-output-eq1.true
    ] in
    let k = refuses a.r xs ws ys c.requires _ Odd c.refused.ensures (called-odd _ _ _ _ odd) in
    record { outcome = k.0; given = k.1 }

pub returns-then-strobes-output : goal.returns-then-strobes-output
returns-then-strobes-output c =
    let a = c.args in
    let even = all-even a.input.now a.strobes.now a.output.now c.if-input-eq1.false c.if-strobes-eq1.false c.if-output-eq1.false in
    let k = refuses a.r a.input.now a.strobes.now a.output.now c.requires _ Uneven c.refused-then-strobes-output.ensures (called-uneven _ _ _ _ even c.if-strobes-output.true) in
    record { outcome = k.0; given = k.1 }

pub returns : goal.returns
returns c =
    let a = c.args in
    let even = all-even a.input.now a.strobes.now a.output.now c.if-input-eq1.false c.if-strobes-eq1.false c.if-output-eq1.false in
    let k = kept a.r a.input.now a.strobes.now a.output.now c.requires (c.accepted.ensures ∙ sym (called-done _ _ _ _ even c.if-strobes-output.false)) in
    record { outcome = k.0; given = k.1 }
