-- `strobe_clock::mid_left` meets its contract, by the detector. Assumes nothing.
use mathlib.Core.Path.{sym, ap}
use Rattle.timing.specs.declared.params.Ted.{Ted}
use Rattle.timing.specs.Clock.{mid_left}
use Rattle.strobe_clock.proofs.steps.mid_left.Goals as goal

pub returns-in-Gardner : goal.returns-in-Gardner
unfolding mid_left
returns-in-Gardner c = sym (ap (λ (t : Ted). mid_left t c.args.mid_ready) c.in-Gardner.is)

pub returns-in-MuellerMuller : goal.returns-in-MuellerMuller
unfolding mid_left
returns-in-MuellerMuller c = sym (ap (λ (t : Ted). mid_left t c.args.mid_ready) c.in-MuellerMuller.is)
