-- `detectors::sign_times` meets its contract: 1 × y is y and -1 × y is -y. Assumes nothing.
use mathlib.Core.Path.{sym, ◌∙◌}
use lib.Ieee.{of_bits}
use Rattle.ieee.proofs.Laws.Test.{yes}
use Rattle.detectors.proofs.Laws.Sign.{sign_above, sign_below, sign-none, above-not-below}
use Rattle.detectors.proofs.detection.sign_times.Goals as goal
use Rattle.detectors.proofs.detection.sign_times.Goals.{then-x, else-x}

pub returns-then-x-2 : goal.returns-then-x-2
unfolding of_bits
returns-then-x-2 c =
    let a = c.args in
    elim c.if-x.branch [
      | then-x w ↦ absurd (above-not-below a.x c.if-x-2.true w.if-x.true)
      | else-x w ↦ w.turned-is ∙ sign_above a.x a.y (yes c.well_formed.1.0.1) c.if-x-2.true
    ]

pub returns-then-x-3 : goal.returns-then-x-3
unfolding of_bits
returns-then-x-3 c =
    let a = c.args in
    elim c.if-x.branch [
      | then-x w ↦ w.turned-is ∙ sign_below a.x a.y (yes c.well_formed.1.0.1) c.if-x-2.false c.if-x-3.true
      | else-x w ↦ absurd (yes (sym w.if-x.false ∙ c.if-x-3.true))
    ]

pub returns-else-x-3 : goal.returns-else-x-3
unfolding of_bits
returns-else-x-3 c = let a = c.args in sign-none a.x a.y c.if-x-2.false c.if-x-3.false
