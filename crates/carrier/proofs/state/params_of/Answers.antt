-- `carrier::state::params_of` meets its contract: by the gains, and by the offset narrowed and flushed.
-- Assumes nothing.
use Rattle.std.proofs.Common.{ap, ◌∙◌}
use lib.Ieee.{binary32}
use Rattle.numbers.specs.Denormal.{flushed}
use Rattle.carrier.specs.State.{params_of}
use Rattle.carrier.proofs.state.params_of.Goals as goal

pub returns : goal.returns
unfolding params_of
returns c =
    let a = c.args in
    let g = c.loop_gains-g.ensures in
    let m = c.flush_denormal-limit.ensures ∙ ap (flushed binary32) c.narrow-single.ensures in
    λ j. record { loop_bw = a.v.loop_bw; damping = a.v.damping; max_offset = a.v.max_offset; kp = (g j).kp; ki = (g j).ki; max = m j }
