-- C11: the rules of the cosine table, of any function `at` that gives the entries 0 to 4096. Definitions only.
use Rattle.std.specs.Prelude.{◌≡◌, ℕ, suc, ◌+◌, ◌-◌, ◌*◌, ◌^◌, ◌≤◌, ◌<◌, T, Float}
use Rattle.std.specs.Float.{binary32}
use Rattle.std.specs.Float.Ieee.{fits, lt}
use Rattle.std.specs.Float.Ieee.Scale.{finite}
use Rattle.ieee.specs.Alike.{Opposite}
use Rattle.ieee.specs.Notation.{zero₀, one₀}
use Rattle.ieee.specs.Fraction.{Fraction, own, Within}

-- 2 q² - 1, exactly: with q = (p - n) / c it is (2 p² + 2 n² - (4 p n + c²)) / c²
abbrev pub doubled : Fraction → Fraction
doubled q = record {
  plus = 2 * (q.plus * q.plus + q.less * q.less);
  less = 4 * (q.plus * q.less) + q.over * q.over;
  over = q.over * q.over;
}

pub record Rules (at : ℕ → Float) : Type 0 where
  -- every entry is a finite f32
  pub held : (j : ℕ) → j ≤ 4096 → T (fits binary32 (at j))
  pub number : (j : ℕ) → j ≤ 4096 → T (finite (at j))
  -- a turn, from 1 to 1, and the two zeros of C10 with their plus sign
  pub start : at 0 ≡ one₀
  pub whole-turn : at 4096 ≡ at 0
  pub quarter : at 1024 ≡ zero₀
  pub three_quarters : at 3072 ≡ zero₀
  -- half a turn on, and mirrored at a quarter turn, the sign changes; a zero may have either sign
  pub half-turn : (j : ℕ) → j ≤ 2048 → Opposite (at (j + 2048)) (at j)
  pub mirrored : (j : ℕ) → j ≤ 2048 → Opposite (at (2048 - j)) (at j)
  -- in the first half each entry is above the next
  pub falls : (j : ℕ) → j < 2048 → T (lt (at (suc j)) (at j))
  -- the double angle, up to 2^-22
  pub doubles : (j : ℕ) → j ≤ 2048 → Within 1 (2 ^ 22) (doubled (own (at j))) (own (at (2 * j)))
