-- `carrier::advance` meets its contract: by the test for a finite error. Assumes nothing.
use Rattle.std.proofs.Common.{Bool, cond, sym, ◌∙◌}
use lib.Ieee.{Float}
use Rattle.ieee.specs.Notation.{zero₀}
use Rattle.detectors.specs.Detector.{calmed}
use Rattle.carrier.specs.Filter.{advanced}
use Rattle.carrier.proofs.filter.advance.Goals as goal

-- the error, or 0
abbrev picked : Float → Bool → Float
picked e is = cond is e zero₀

pub returns-then-is_finite : goal.returns-then-is_finite
unfolding calmed
returns-then-is_finite c = let a = c.args in c.steer.ensures ∙ (λ j. advanced a.p a.n (picked a.e ((sym c.if-is_finite.true ∙ c.is_finite.ensures) j)))

pub returns-else-is_finite : goal.returns-else-is_finite
unfolding calmed
returns-else-is_finite c = let a = c.args in c.coast.ensures ∙ (λ j. advanced a.p a.n (picked a.e ((sym c.if-is_finite.false ∙ c.is_finite.ensures) j)))
