-- A value limited to -l to l, and the greater and the smaller of two. Definitions only.
use Rattle.std.specs.Prelude.{cond, Float}
use Rattle.std.specs.Float.Ieee.{neg, lt}

-- N7: x, or the nearer of -l and l where it lies outside; a NaN is itself
unfoldable pub limited : Float → Float → Float
limited x l = cond (lt x (neg l)) (neg l) (cond (lt l x) l x)

-- the original's `max` and `min` of two numbers; of equal ones, which IEEE 754 leaves open for two zeros, the first
abbrev pub greater : Float → Float → Float
greater x y = cond (lt x y) y x

abbrev pub smaller : Float → Float → Float
smaller x y = cond (lt y x) y x
