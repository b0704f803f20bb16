-- `real_sync::run` meets its contract: a call on real samples is a run that is not refused. Assumes nothing.
use Rattle.timing.specs.Run.{called_real}
use Rattle.real_sync.proofs.loops.run.Goals as goal

pub returns-clause-outcome : goal.returns-clause-outcome
unfolding called_real
returns-clause-outcome c = c.recover.ensures.outcome
