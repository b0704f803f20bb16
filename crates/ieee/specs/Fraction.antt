-- The fraction (plus - less) / over that a finite float is, in ℕ; how far two fractions lie apart;
-- what it is for a float to have a value and to lie between bounds. Definitions only.
use Rattle.std.specs.Prelude.{◌≡◌, ℕ, suc, ◌+◌, ◌*◌, ◌^◌, ◌≤◌, Bool, true, false, T, Float}
use Rattle.std.specs.Float.{nan, inf, fin, Format}
use Rattle.std.specs.Float.Ieee.{low, up, round, le}
use Rattle.std.specs.Float.Ieee.Exact.{HasValue}
use Rattle.std.specs.Float.Ieee.Scale.{finite}
use Rattle.std.specs.Float.Ieee.Positive.{den}
use Rattle.ieee.specs.Notation.{zero₀}

-- a finite x is (plus x - less x) / den x, and one of the two is 0
abbrev pub plus : Float → ℕ
plus nan = 0
plus (inf s) = 0
plus (fin false m e) = m * up e
plus (fin true m e) = 0

abbrev pub less : Float → ℕ
less nan = 0
less (inf s) = 0
less (fin false m e) = 0
less (fin true m e) = m * up e

-- (plus - less) / over, for an over above 0
pub record Fraction : Type 0 where
  pub plus : ℕ
  pub less : ℕ
  pub over : ℕ

abbrev pub own : Float → Fraction
own x = record { plus = plus x; less = less x; over = den x }

abbrev pub nothing : Fraction
nothing = record { plus = 0; less = 0; over = 1 }

-- q ≤ r + e / d
abbrev pub Below : ℕ → ℕ → Fraction → Fraction → Type 0
Below e d q r = (q.plus * r.over + r.less * q.over) * d ≤ (r.plus * q.over + q.less * r.over) * d + e * (q.over * r.over)

-- |q - r| ≤ e / d
pub record Within (e d : ℕ) (q r : Fraction) : Type 0 where
  pub under : Below e d q r
  pub above : Below e d r q

-- how many halves of the format's smallest value 1 has: distances are counted in these
abbrev pub halves : Format → ℕ
halves f = 2 ^ suc (low f)

-- x is (p - n) / c, for a c above 0
abbrev pub Val : Float → ℕ → ℕ → ℕ → Type 0
Val x p n c = T (finite x) × (plus x * c + n * den x ≡ p * den x + less x * c)

-- a / c, with either sign, is on the format's grid
abbrev pub Exact : Format → ℕ → ℕ → Type 0
Exact f a c = (s : Bool) → HasValue (round f s a c) s a c

-- x lies in lo to hi, which are from 0 up
pub record Span (lo hi x : Float) : Type 0 where
  pub top : T (finite hi)
  pub from : T (le zero₀ lo)
  pub low : T (le lo x)
  pub high : T (le x hi)

-- x is a number, not a NaN
abbrev pub number : Float → Bool
number nan = false
number (inf s) = true
number (fin s m e) = true
