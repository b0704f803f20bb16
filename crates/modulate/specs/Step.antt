-- C18: the phase step, in exact arithmetic and as the original computes it in f64. Definitions only.
use Rattle.std.specs.Prelude.{◌≡◌, ℕ, ◌+◌, ◌-◌, ◌*◌, ◌%◌, ◌^◌, ◌<◌, ◌≤◌, Bool, true, false, cond, pos, nat_le, Float}
use Rattle.std.specs.Float.{nan, inf, fin}
use Rattle.std.specs.Float.Ieee.{up, down}
use Rattle.ieee.specs.Notation.{◌⊞◌, ◌⊠◌, half₀}
use Rattle.numbers.specs.Whole.{whole_down}

-- ±n modulo 2^32
abbrev pub wrapped : Bool → ℕ → ℕ
wrapped false n = n % 2 ^ 32
wrapped true n = (2 ^ 32 - n % 2 ^ 32) % 2 ^ 32

-- ---- in exact arithmetic
-- ±a / c + 1/2 is this over 2 c, with the sign of ±a; between -1/2 and 0 it is 0, where the
-- sum lies between 0 and 1/2
abbrev pub half_more : Bool → ℕ → ℕ → ℕ
half_more false a c = 2 * a + c
half_more true a c = 2 * a - c

-- floor(±a / c + 1/2), in size: it has the sign of ±a, or is 0 (`rounded-floor`)
abbrev pub rounded : Bool → ℕ → ℕ → ℕ
rounded s a c = whole_down s (half_more s a c) (2 * c)

-- C18: the phase step of an f32 v; a NaN gives 0
unfoldable pub phase_step : Float → ℕ
phase_step nan = 0
phase_step (inf s) = cond s 0 0xffffffff
phase_step (fin s m e) = cond (nat_le (2 ^ 31 * down e) (m * up e)) (cond s 0 0xffffffff) (wrapped s (rounded s (m * up e * 2 ^ 32) (down e)))

-- ---- as the original computes it, in f64
-- the size from which a cast to an `i64` gives an end of its range, -2^63 or 2^63 - 1
abbrev pub cast_end : ℕ
cast_end = 2 ^ 63

-- floor(v) cast to an `i64`, and this wrapped into a `u32`
unfoldable pub stepped : Float → ℕ
stepped nan = 0
stepped (inf s) = cond s 0 0xffffffff
stepped (fin s m e) = cond (nat_le (cast_end * down e) (m * up e)) (cond s 0 0xffffffff) (wrapped s (whole_down s (m * up e) (down e)))

-- C25: x × k + 1/2, two roundings
abbrev pub step_of : Float → Float → ℕ
step_of x k = stepped (x ⊠ k ⊞ half₀)

-- 2^32, the k that a phase step of an f32 is taken with (`step-single`)
abbrev pub turn₀ : Float
turn₀ = fin false 1 (pos 32)

-- ---- ends of ranges in the code
-- 2^51
abbrev pub magic_range : Float
magic_range = fin false 1 (pos 51)

-- 2^14
abbrev pub bits_range : Float
bits_range = fin false 1 (pos 14)

-- ---- what the floor is: ±n is floor(±a / c + 1/2), ±n ≤ ±a / c + 1/2 < ±n + 1, times 2 c
abbrev pub Floored : Bool → ℕ → ℕ → ℕ → Type 0
Floored false a c n = (n * (2 * c) ≤ 2 * a + c) × (2 * a + c < n * (2 * c) + 2 * c)
Floored true a c n = (2 * a ≤ n * (2 * c) + c) × (n * (2 * c) < 2 * a + c)

-- r is a - b modulo 2^32
pub record Wraps (r a b : ℕ) : Type 0 where
  pub small : r < 2 ^ 32
  pub same : (r + b) % 2 ^ 32 ≡ a % 2 ^ 32
