-- C3: the gains of the carrier loop, in f64 and then narrowed to f32. Definitions only.
use Rattle.std.specs.Prelude.{from_bits, Float}
use Rattle.std.specs.Float.{binary64}
use Rattle.ieee.specs.Notation.{◌⧄◌}
use Rattle.numbers.specs.Narrowing.{narrowed}
use Rattle.gains.specs.Quotients.{proportional, integral}

-- 2π, the nearest f64
abbrev pub tau : Float
tau = from_bits binary64 0x401921fb54442d18

-- C3: the proportional gain
unfoldable pub kp_of : Float → Float → Float
kp_of bw damping = narrowed (proportional bw damping ⧄ tau)

-- C3: the integral gain
unfoldable pub ki_of : Float → Float → Float
ki_of bw damping = narrowed (integral bw damping ⧄ tau)
