-- `carrier::reset` meets its contract: by the start with the parameters that are there. Assumes nothing.
use Rattle.std.proofs.Common.{sym, subst}
use Rattle.carrier.specs.declared.state.CostasState.{CostasState}
use Rattle.carrier.specs.State.{Given}
use Rattle.carrier.proofs.Laws.Given.{fresh-given}
use Rattle.carrier.proofs.state.reset.Goals as goal

pub returns-clause-given : goal.returns-clause-given
returns-clause-given c = subst (λ (s : CostasState). Given s) (sym c.start.ensures) (fresh-given _ _ c.requires.accepted)
