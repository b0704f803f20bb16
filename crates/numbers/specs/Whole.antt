-- The floor of an f64, and whole numbers beside it. Definitions only.
use Rattle.std.specs.Prelude.{◌≡◌, ℕ, ◌+◌, ◌-◌, ◌*◌, ◌/◌, Bool, true, false, pos, T, Float}
use Rattle.std.specs.Float.{nan, inf, fin, binary64}
use Rattle.std.specs.Float.Ieee.{up, down, round, lt, eq}
use Rattle.ieee.specs.Notation.{◌⊞◌, one₀}

-- ±a / c toward minus infinity, in size: below zero the quotient is taken up
abbrev pub whole_down : Bool → ℕ → ℕ → ℕ
whole_down false a c = a / c
whole_down true a c = (a + (c - 1)) / c

-- N4: the floor of x; a NaN, an infinity and a zero are themselves.
-- An f64 holds it, so that `round` loses nothing (`floor-val`)
unfoldable pub floored : Float → Float
floored nan = nan
floored (inf s) = inf s
floored (fin s m e) = round binary64 s (whole_down s (m * up e) (down e)) 1

-- the same whole number as a difference: floored x is floor_plus x - floor_less x, and one of the two is 0
abbrev pub floor_plus : Float → ℕ
floor_plus nan = 0
floor_plus (inf s) = 0
floor_plus (fin false m e) = whole_down false (m * up e) (down e)
floor_plus (fin true m e) = 0

abbrev pub floor_less : Float → ℕ
floor_less nan = 0
floor_less (inf s) = 0
floor_less (fin false m e) = 0
floor_less (fin true m e) = whole_down true (m * up e) (down e)

-- 2^52: from here up an f64 has no fraction
abbrev pub far : Float
far = fin false 1 (pos 52)

-- r is a whole number less than 1 away from x: x itself if that is whole (a zero may change its sign),
-- else its floor or the next one up
pub data Beside (x r : Float) : Type 0 where
  same : x ≡ floored x → T (eq r x) → Beside x r
  under : T (lt (floored x) x) → r ≡ floored x → Beside x r
  over : T (lt (floored x) x) → r ≡ floored x ⊞ one₀ → Beside x r
