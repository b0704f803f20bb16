-- `timing_loop::start` gives a state that is given: the fresh one. Assumes nothing.
use mathlib.Core.Path.{sym, subst}
use mathlib.Core.Bool.{false}
use Rattle.timing.specs.declared.clock.Clock.{Clock}
use Rattle.timing.specs.Clock.{lacking}
use Rattle.timing.specs.Given.{Running}
use Rattle.timing.proofs.Laws.Fresh.{fresh-given}
use Rattle.timing_loop.proofs.state.start.Goals as goal

pub returns-clause-given : goal.returns-clause-given
returns-clause-given g c =
    let p = c.args.p in
    subst (λ (k : Clock). Running p k (lacking p.ted false false) 0) (sym c.fresh_clock.ensures) (fresh-given g.S.Sample.ops p c.requires)
