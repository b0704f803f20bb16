-- `costas::carry` meets its contract: the state is the one before with the track after the last symbol.
-- Assumes nothing.
use Rattle.std.proofs.Common.{◌*◌, ◌/◌, length, take, sym, subst}
use Rattle.carrier.specs.declared.symbol.Track.{Track}
use Rattle.carrier.specs.State.{Given}
use Rattle.carrier.proofs.Laws.Given.{done-given}
use Rattle.costas.proofs.symbols.carry.Goals as goal

pub returns-clause-given : goal.returns-clause-given
returns-clause-given c =
    let s = c.args.s in
    subst (λ (t : Track). Given (record { constellation = s.constellation; params = s.params; track = t })) (sym c.symbols-last.ensures.last) (done-given s (take (2 * (length c.args.output.now / 2)) c.args.input.now) c.requires)
