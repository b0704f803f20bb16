-- A number in thousandths, to the nearest, as the summary has the pace (P8). Definitions only.
use Rattle.std.specs.Prelude.{ℕ, true, false, cond, ◌&&◌, pos, Float}
use Rattle.std.specs.Float.{fin}
use Rattle.std.specs.Float.Ieee.{lt, to_unsigned}
use Rattle.ieee.specs.Notation.{◌⊞◌, ◌⊠◌, half₀}

abbrev pub thousand : Float
thousand = fin false 125 (pos 3)

-- the whole numbers of 64 bits lie between -1 and 2^64
abbrev pub before : Float
before = fin true 1 (pos 0)

abbrev pub beyond : Float
beyond = fin false 1 (pos 64)

-- x × 1000 + 1/2 without its fraction; 0 for what is negative, no number or too large
unfoldable pub thousandths_of : Float → ℕ
thousandths_of x = let t = x ⊠ thousand ⊞ half₀ in cond (lt before t && lt t beyond) (to_unsigned 64 t) 0
