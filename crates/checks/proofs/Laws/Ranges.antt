-- What it says that a value lies in its range. Assumes nothing.
use mathlib.Core.Bool.{◌&&◌}
use lib.Dec.{T}
use lib.Ieee.{Float, le}
use lib.Ieee.Fits.{and_l, and_r}
use lib.Ieee.Scale.{finite}
use Rattle.ieee.specs.Notation.{zero₀}
use Rattle.checks.specs.Range.{in_range}
use Rattle.ieee.specs.Fraction.{Span}

pub record Ranged (lo x hi : Float) : Type 0 where
  pub is : T (finite x)
  pub low : T (le lo x)
  pub high : T (le x hi)

pub ranged : (lo x hi : Float) → T (in_range lo x hi) → Ranged lo x hi
unfolding in_range
ranged lo x hi h =
    let k = and_l (finite x && le lo x) (le x hi) h in
    record { is = and_l (finite x) (le lo x) k; low = and_r (finite x) (le lo x) k; high = and_r (finite x && le lo x) (le x hi) h }

-- a range that starts at 0 or above
pub in_span : (lo x hi : Float) → T (le zero₀ lo) → T (finite hi) → T (in_range lo x hi) → Span lo hi x
in_span lo x hi z p h = let r = ranged lo x hi h in record { top = p; from = z; low = r.low; high = r.high }
