-- `checks::within` meets its contract: by the test for a finite value, then by the two ends. Assumes nothing.
use mathlib.Core.Path.{◌≡◌, refl, sym, ◌∙◌}
use mathlib.Core.Bool.{Bool, true, false, ◌&&◌}
use mathlib.Core.Logic.{◌⊎◌, inl, inr}
use Rattle.ieee.proofs.Laws.Test.{and-held, and-failed}
use Rattle.checks.specs.Range.{in_range}
use Rattle.checks.proofs.range.within.Goals as goal
use Rattle.checks.proofs.range.within.Goals.{then-is_finite, else-is_finite}

-- the first two tests: v is the second where the first, r, holds
low : {r v f l : Bool} → r ≡ f → ((r ≡ true) × (v ≡ l)) ⊎ ((r ≡ false) × (v ≡ r)) → v ≡ (f && l)
low e (inl w) = and-held (sym e ∙ w.0) w.1
low e (inr w) = and-failed _ (sym e ∙ w.0) (w.1 ∙ e)

pub returns-then-lo-x : goal.returns-then-lo-x
unfolding in_range
returns-then-lo-x c =
    let e = low c.is_finite.ensures (elim c.if-is_finite.branch [ then-is_finite w ↦ inl (w.if-is_finite.true, w.value-is) | else-is_finite w ↦ inr (w.if-is_finite.false, w.value-is) ]) in
    and-held (sym e ∙ c.if-lo-x.true) refl

pub returns-else-lo-x : goal.returns-else-lo-x
unfolding in_range
returns-else-lo-x c =
    let e = low c.is_finite.ensures (elim c.if-is_finite.branch [ then-is_finite w ↦ inl (w.if-is_finite.true, w.value-is) | else-is_finite w ↦ inr (w.if-is_finite.false, w.value-is) ]) in
    and-failed _ (sym e ∙ c.if-lo-x.false) e
