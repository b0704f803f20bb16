-- When a value of a set-up lies in its range. Definitions only.
use Rattle.std.specs.Prelude.{Bool, ◌&&◌, Float}
use Rattle.std.specs.Float.Ieee.{le, lt}
use Rattle.std.specs.Float.Ieee.Scale.{finite}
use Rattle.ieee.specs.Notation.{zero₀}

-- A3: x is finite and lies in lo to hi, both ends included
unfoldable pub in_range : Float → Float → Float → Bool
in_range lo x hi = (finite x && le lo x) && le x hi

-- E5: x is finite and above 0
unfoldable pub positive : Float → Bool
positive x = finite x && lt zero₀ x
