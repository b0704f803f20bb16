-- `carrier::set_frequency` meets its contract: by the frequency that is taken. Assumes nothing.
use Rattle.std.proofs.Common.{sym, ap, subst}
use lib.Ieee.{Float}
use Rattle.carrier.specs.declared.state.CostasState.{CostasState}
use Rattle.carrier.specs.State.{Given}
use Rattle.carrier.proofs.Laws.Given.{frequency_set-given}
use Rattle.carrier.proofs.state.set_frequency.Goals as goal

pub returns-clause-given : goal.returns-clause-given
returns-clause-given c =
    let s = c.args.s in
    let at : Float → CostasState = λ f. record { constellation = s.constellation; params = s.params; track = record { nco = record { phase = s.track.nco.phase; freq = f }; lock = s.track.lock } } in
    subst (λ (t : CostasState). Given t) (sym (ap at c.frequency_of-after.ensures)) (frequency_set-given s c.args.freq c.requires)
