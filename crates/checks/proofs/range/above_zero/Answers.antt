-- `checks::above_zero` meets its contract: by the test for a finite value. Assumes nothing.
use mathlib.Core.Path.{refl, sym, ◌∙◌}
use lib.Ieee.{of_bits}
use Rattle.ieee.proofs.Laws.Test.{and-held, and-failed}
use Rattle.checks.specs.Range.{positive}
use Rattle.checks.proofs.range.above_zero.Goals as goal

pub returns-then-is_finite : goal.returns-then-is_finite
unfolding positive of_bits
returns-then-is_finite c = and-held (sym c.is_finite.ensures ∙ c.if-is_finite.true) refl

pub returns-else-is_finite : goal.returns-else-is_finite
unfolding positive
returns-else-is_finite c = and-failed _ (sym c.is_finite.ensures ∙ c.if-is_finite.false) c.is_finite.ensures
