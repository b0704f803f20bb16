-- `detectors::lock_metric` meets its contract: by the test for a finite measure. Assumes nothing.
use Rattle.std.specs.Prelude.{Some, None}
use mathlib.Core.Path.{sym, ap, ◌∙◌}
use mathlib.Core.Bool.{Bool, cond}
use lib.Ieee.{Float}
use lib.Ieee.Scale.{finite}
use Rattle.detectors.specs.Lock.{Metric, metric_of}
use Rattle.detectors.proofs.lock.lock_metric.Goals as goal

-- a measure, by whether it is finite
abbrev told : Bool → Float → Metric
told is m = cond is (Some m) None

abbrev own : Float → Metric
own m = told (finite m) m

pub returns-then-is_finite : goal.returns-then-is_finite
unfolding metric_of
returns-then-is_finite c = (λ j. told ((sym c.if-is_finite.true ∙ c.is_finite.ensures) j) c.measure-c.result) ∙ ap own c.measure-c.ensures

pub returns-else-is_finite : goal.returns-else-is_finite
unfolding metric_of
returns-else-is_finite c = (λ j. told ((sym c.if-is_finite.false ∙ c.is_finite.ensures) j) c.measure-c.result) ∙ ap own c.measure-c.ensures
