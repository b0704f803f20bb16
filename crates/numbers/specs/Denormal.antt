-- Flushing to zero, in both widths. Definitions only.
use Rattle.std.specs.Prelude.{◌^◌, cond, Float}
use Rattle.std.specs.Float.{Format}
use Rattle.std.specs.Float.Ieee.{lt}
use Rattle.ieee.specs.Notation.{zero₀, decimal}
use Rattle.ieee.specs.Magnitude.{magnitude}

-- the threshold 1e-30, as the nearest number of the format (N2)
abbrev pub tiny : Format → Float
tiny f = decimal f 1 (10 ^ 30)

-- N3: x, or 0 if its magnitude is below 1e-30; a NaN is itself
unfoldable pub flushed : Format → Float → Float
flushed f x = cond (lt (magnitude x) (tiny f)) zero₀ x
