-- `strobe_clock::advance` meets its contract: a given clock can take the error that is settled. Assumes nothing.
use mathlib.Core.Path.{sym, subst}
use lib.Ieee.{Float}
use Rattle.timing.specs.Clock.{moved, On}
use Rattle.timing.proofs.Laws.Clock.{strobe-moves}
use Rattle.strobe_clock.proofs.steps.advance.Goals as goal

pub step_on-requires : goal.step_on-requires
step_on-requires c =
    let s = c in
    let a = s.args in
    subst (λ (e : Float). On a.c.i (moved a.p a.c e)) (sym c.settle.ensures) (strobe-moves s.requires a.started a.e)
