-- `timing_loop::decision` meets its contract: the definition goes by the detector. Assumes nothing.
use mathlib.Core.Path.{sym, ◌∙◌}
use Rattle.timing.specs.Loop.{decision}
use Rattle.timing_loop.proofs.loops.decision.Goals as goal

pub returns-in-Gardner : goal.returns-in-Gardner
unfolding decision
returns-in-Gardner g c = let a = c.args in λ j. decision g.S.Sample.ops (sym c.in-Gardner.is j) a.d_prev a.y

pub returns-in-MuellerMuller : goal.returns-in-MuellerMuller
unfolding decision
returns-in-MuellerMuller g c = let a = c.args in c.decide.ensures ∙ (λ j. decision g.S.Sample.ops (sym c.in-MuellerMuller.is j) a.d_prev a.y)
