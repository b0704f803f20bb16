-- C10: what it is for an f32 to be nearest to y, a number of any number system: no other f32 is as near.
-- Definitions only.
use Rattle.std.specs.Prelude.{◌+◌, ◌*◌, T, Float}
use Rattle.std.specs.Float.{binary32}
use Rattle.std.specs.Float.Ieee.{fits, lt}
use Rattle.std.specs.Float.Ieee.Scale.{finite}
use Rattle.ieee.specs.Fraction.{Fraction, own}
use Rattle.cosine.specs.Cosine.{Numbers, AtLeast, AtMost}

-- (q + r) / 2
abbrev pub middle : Fraction → Fraction → Fraction
middle q r = record {
  plus = q.plus * r.over + r.plus * q.over;
  less = q.less * r.over + r.less * q.over;
  over = 2 * (q.over * r.over);
}

-- x is a finite f32, and y lies strictly nearer to x than to any finite f32 that is another number: below the middle
-- of x and each z above x, and above the middle of x and each z below x. Here y < c is written as ¬ (c ≤ y), which is
-- the same for real numbers. `nearest-once`: no two numbers are nearest.
pub record Nearest (N : Numbers) (y : N.R) (x : Float) : Type 0 where
  pub held : T (fits binary32 x)
  pub number : T (finite x)
  pub below : (z : Float) → T (fits binary32 z) → T (finite z) → T (lt x z) → ¬ (AtLeast N y (middle (own x) (own z)))
  pub above : (z : Float) → T (fits binary32 z) → T (finite z) → T (lt z x) → ¬ (AtMost N y (middle (own x) (own z)))
