-- `strobe_clock::lacks` meets its contract: by the detector and the two flags. Assumes nothing.
use mathlib.Core.Path.{sym, ap, ◌∙◌}
use mathlib.Core.Bool.{Bool, not, ◌&&◌}
use Rattle.timing.specs.declared.params.Ted.{Ted}
use Rattle.timing.specs.Clock.{lacking}
use Rattle.strobe_clock.proofs.steps.lacks.Goals as goal

pub returns-then-started : goal.returns-then-started
unfolding lacking
returns-then-started c =
    let a = c.args in
    sym (ap (λ (t : Ted). lacking t a.started a.mid_ready) c.in-Gardner.is ∙ ap (λ (b : Bool). b && not a.mid_ready) c.if-started.true)

pub returns-else-started : goal.returns-else-started
unfolding lacking
returns-else-started c =
    let a = c.args in
    c.if-started.false ∙ sym (ap (λ (t : Ted). lacking t a.started a.mid_ready) c.in-Gardner.is ∙ ap (λ (b : Bool). b && not a.mid_ready) c.if-started.false)

pub returns-in-MuellerMuller : goal.returns-in-MuellerMuller
unfolding lacking
returns-in-MuellerMuller c = let a = c.args in sym (ap (λ (t : Ted). lacking t a.started a.mid_ready) c.in-MuellerMuller.is)
