-- The gains of the timing loop, in f64. Definitions only.
use Rattle.std.specs.Prelude.{Float}
use Rattle.ieee.specs.Notation.{◌⊠◌, ◌⧄◌}
use Rattle.gains.specs.Quotients.{proportional, integral}

-- T3: kp = ((((4 × damping) × θ) / d) / gain) × sps
unfoldable pub kp_of : Float → Float → Float → Float → Float
kp_of sps bw damping gain = (proportional bw damping ⧄ gain) ⊠ sps

-- T3: ki = (((4 × (θ × θ)) / d) / gain) × sps
unfoldable pub ki_of : Float → Float → Float → Float → Float
ki_of sps bw damping gain = (integral bw damping ⧄ gain) ⊠ sps
