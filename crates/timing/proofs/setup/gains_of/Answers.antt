-- `timing::setup::gains_of` meets its contract: the quotients, divided and multiplied as the definition has it.
-- Assumes nothing.
use Rattle.std.specs.Prelude.{Float}
use Rattle.std.proofs.Common.{ap}
use Rattle.ieee.specs.Notation.{◌⊠◌, ◌⧄◌}
use Rattle.gains.specs.declared.quotients.Gains.{Gains}
use Rattle.timing.specs.Gains.{kp_of, ki_of}
use Rattle.timing.proofs.setup.gains_of.Goals as goal

pub returns : goal.returns
unfolding kp_of ki_of
returns c =
    let a = c.args.v in
    let with : Gains Float → Gains Float = λ q. record { kp = (q.kp ⧄ a.ted_gain) ⊠ a.sps; ki = (q.ki ⧄ a.ted_gain) ⊠ a.sps } in
    ap with c.inner_gains-q.ensures
