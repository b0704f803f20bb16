-- `timing::tune` meets its contract: the tests that led to an answer are the rows that the definition goes by.
-- Assumes nothing.
use Rattle.std.specs.Prelude.{Ok, Err, Float}
use Rattle.std.proofs.Common.{◌≡◌, Bool, true, false, ◌&&◌, T, sym, ap, ◌∙◌, subst, ◌⊎◌, inl, inr}
use lib.Ieee.{of_bits, round}
use lib.Ieee.Scale.{finite}
use Rattle.ieee.proofs.Laws.Test.{and-held, and-failed}
use Rattle.checks.proofs.Laws.Rows.{first-passed, first-refused}
use Rattle.timing.specs.declared.params.Params.{Params}
use Rattle.gains.specs.declared.quotients.Gains.{Gains}
use Rattle.timing.specs.Setup.{tuned, params_with}
use Rattle.timing.specs.Given.{Tuned}
use Rattle.timing.proofs.Laws.Setup.{all-passed}
use Rattle.timing.proofs.setup.tune.Goals as goal
use Rattle.timing.proofs.setup.tune.Goals.{then-is_finite, else-is_finite}

-- what a test says of its row
row : {r t b : Bool} → r ≡ t → r ≡ b → t ≡ b
row e h = sym e ∙ h

-- whether both gains are finite, of the gains as the code has them
both : {r f l v : Bool} → r ≡ f → ((r ≡ true) × (v ≡ l)) ⊎ ((r ≡ false) × (v ≡ r)) → v ≡ (f && l)
both e (inl w) = and-held (sym e ∙ w.0) w.1
both e (inr w) = and-failed _ (sym e ∙ w.0) (w.1 ∙ e)

gains-are : (b : Bool) (g h : Gains Float) → g ≡ h → (finite g.kp && finite g.ki) ≡ b → (finite h.kp && finite h.ki) ≡ b
gains-are b g h e p = subst (λ (g : Gains Float). (finite g.kp && finite g.ki) ≡ b) e p

pub returns-then-not-within : goal.returns-then-not-within
unfolding tuned of_bits round
returns-then-not-within c = record { outcome = sym (first-refused Err _ _ _ (row c.within.ensures c.if-not-within.true)); given = tt }

pub returns-then-not-within-2 : goal.returns-then-not-within-2
unfolding tuned of_bits round
returns-then-not-within-2 c = record { outcome = sym (first-passed Err _ _ _ (row c.within.ensures c.if-not-within.false) ∙ first-refused Err _ _ _ (row c.within-2.ensures c.if-not-within-2.true)); given = tt }

pub returns-then-not-within-3 : goal.returns-then-not-within-3
unfolding tuned of_bits round
returns-then-not-within-3 c = record { outcome = sym (first-passed Err _ _ _ (row c.within.ensures c.if-not-within.false) ∙ first-passed Err _ _ _ (row c.within-2.ensures c.if-not-within-2.false) ∙ first-refused Err _ _ _ (row c.within-3.ensures c.if-not-within-3.true)); given = tt }

pub returns-then-not-within-4 : goal.returns-then-not-within-4
unfolding tuned of_bits round
returns-then-not-within-4 c = record { outcome = sym (first-passed Err _ _ _ (row c.within.ensures c.if-not-within.false) ∙ first-passed Err _ _ _ (row c.within-2.ensures c.if-not-within-2.false) ∙ first-passed Err _ _ _ (row c.within-3.ensures c.if-not-within-3.false) ∙ first-refused Err _ _ _ (row c.within-4.ensures c.if-not-within-4.true)); given = tt }

pub returns-then-not-above_zero : goal.returns-then-not-above_zero
unfolding tuned of_bits round
returns-then-not-above_zero c = record { outcome = sym (first-passed Err _ _ _ (row c.within.ensures c.if-not-within.false) ∙ first-passed Err _ _ _ (row c.within-2.ensures c.if-not-within-2.false) ∙ first-passed Err _ _ _ (row c.within-3.ensures c.if-not-within-3.false) ∙ first-passed Err _ _ _ (row c.within-4.ensures c.if-not-within-4.false) ∙ first-refused Err _ _ _ (row c.above_zero.ensures c.if-not-above_zero.true)); given = tt }

pub returns-then-not-is_finite : goal.returns-then-not-is_finite
unfolding tuned of_bits round
returns-then-not-is_finite c = record { outcome = sym (first-passed Err _ _ _ (row c.within.ensures c.if-not-within.false) ∙ first-passed Err _ _ _ (row c.within-2.ensures c.if-not-within-2.false) ∙ first-passed Err _ _ _ (row c.within-3.ensures c.if-not-within-3.false) ∙ first-passed Err _ _ _ (row c.within-4.ensures c.if-not-within-4.false) ∙ first-passed Err _ _ _ (row c.above_zero.ensures c.if-not-above_zero.false) ∙ first-refused Err _ _ _ (gains-are false _ _ c.gains_of-g.ensures (row (both c.is_finite.ensures (elim c.if-is_finite.branch [ then-is_finite w ↦ inl (w.if-is_finite.true, w.value-is ∙ w.is_finite-then-is_finite.ensures) | else-is_finite w ↦ inr (w.if-is_finite.false, w.value-is) ])) c.if-not-is_finite.true))); given = tt }

pub returns : goal.returns
unfolding of_bits round
returns c =
    let a = c.args.v in
    let with : Gains Float → Params = λ g. params_with a.sps a.ted a.loop_bw a.damping a.max_deviation a.ted_gain g.kp g.ki in
    let p = c.accepted-p.ensures ∙ ap with c.gains_of-g.ensures in
    let e = all-passed a.sps a.ted a.loop_bw a.damping a.max_deviation a.ted_gain
    (row c.within.ensures c.if-not-within.false)
    (row c.within-2.ensures c.if-not-within-2.false)
    (row c.within-3.ensures c.if-not-within-3.false)
    (row c.within-4.ensures c.if-not-within-4.false)
    (row c.above_zero.ensures c.if-not-above_zero.false)
    (gains-are true _ _ c.gains_of-g.ensures (row (both c.is_finite.ensures (elim c.if-is_finite.branch [ then-is_finite w ↦ inl (w.if-is_finite.true, w.value-is ∙ w.is_finite-then-is_finite.ensures) | else-is_finite w ↦ inr (w.if-is_finite.false, w.value-is) ])) c.if-not-is_finite.false)) in
    let fit = subst T (sym c.well_formed.0.1.1.0.1) tt in
    record { outcome = ap (λ (p : Params). Ok p) p ∙ sym e; given = subst (λ (p : Params). Tuned p) (sym p) (record { sps-fits = fit; accepted = e }) }
