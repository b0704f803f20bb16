-- `detectors::with_sign` meets its contract: the sign is that of the test below 0. Assumes nothing.
use mathlib.Core.Path.{sym, ap, ◌∙◌}
use mathlib.Core.Bool.{Bool, cond}
use lib.Ieee.{of_bits, neg}
use Rattle.ieee.proofs.Laws.Test.{yes}
use Rattle.detectors.proofs.Laws.Sign.{sign-sized}
use Rattle.detectors.proofs.detection.with_sign.Goals as goal

pub returns-then-x : goal.returns-then-x
unfolding of_bits
returns-then-x c =
    let a = c.args in
    ap (λ (b : Bool). cond b (neg a.y) a.y) (sym c.if-x.true) ∙ sign-sized a.x a.y (yes c.well_formed.1.0.1) c.requires

pub returns-else-x : goal.returns-else-x
unfolding of_bits
returns-else-x c =
    let a = c.args in
    ap (λ (b : Bool). cond b (neg a.y) a.y) (sym c.if-x.false) ∙ sign-sized a.x a.y (yes c.well_formed.1.0.1) c.requires
