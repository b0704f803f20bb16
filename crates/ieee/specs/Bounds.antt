-- A lower bound of a value that may not be finite. Definitions only.
use Rattle.std.specs.Prelude.{T, Float}
use Rattle.std.specs.Float.Ieee.{le}
use Rattle.std.specs.Float.Ieee.Scale.{finite}

-- x is at least c, if it is finite
abbrev pub Reaches : Float → Float → Type 0
Reaches c x = T (finite x) → T (le c x)
