-- An f32's bits as an f64's: below 2 ^ -126 the digits times 2 ^ -149, from there up the field and the digits moved.
-- Assumes nothing.
use mathlib.Core.Path.{◌≡◌, refl, sym, ap, ◌∙◌}
use Prim.Native.Nat.{ℕ, suc, ◌+◌, ◌-◌, ◌*◌, ◌/◌, ◌%◌, ◌^◌, ◌≤◌, ◌<◌}
use native.Mathlib.Nat.{lt_of_lt_of_le, mul_assoc, mul-lt-mul_of_pos_right, mod-lt}
use native.Mathlib.Omega.{arith}
use mathlib.Core.Bool.{false, not}
use lib.Dec.{T}
use lib.IntN.{negsuc}
use lib.Pow.{pow_pos, pow-add, pow_mono}
use lib.Ieee.{Float, fin, binary32, binary64, round, mul, fits, is_nan, of_bits, to_bits}
use lib.Ieee.Back.{round_whole}
use lib.Ieee.Bits.{of_bits-fits, of_bits-to_bits}
use lib.Ieee.Exact.{HasValue, round_exact}
use lib.Ieee.Fits.{mul-fits, fits_widens}
use Rattle.ieee.proofs.Laws.Exact.{whole_scaled}
use Rattle.ieee.proofs.Laws.Unique.{value-unique}
use Rattle.ieee.proofs.Laws.Bits.{low_value, normal-value, infinite-bits, unsigned, value-number}

-- ---- below 2 ^ -126
-- 2 ^ -149
abbrev pub smallest : Float
smallest = fin false 1 (negsuc 148)

-- n of these, as the code makes it
abbrev pub counted : ℕ → Float
counted n = mul binary64 (round binary64 false n 1) smallest

module _ (n : ℕ) (h : n < 2 ^ 23) where
  counted-value : HasValue (counted n) false n (2 ^ 149)
  counted-value =
      rw (whole_scaled binary64 (round binary64 false n 1) n 148 (round_whole binary64 false n (omega arith)))
      (round_exact binary64 false n (2 ^ 149) n 925 (pow_pos 149) (lt_of_lt_of_le h (pow_mono {i = 23} {j = 53} (omega arith))) (lt_of_lt_of_le (mul-lt-mul_of_pos_right h (pow_pos 925)) (pow_mono {i = 948} {j = 2098} (omega arith))) (sym (mul_assoc n (2 ^ 925) (2 ^ 149))))

  counted-fits : T (fits binary64 (counted n))
  counted-fits = mul-fits binary64 (round binary64 false n 1) smallest

  pub counted-number : T (not (is_nan (counted n)))
  counted-number = value-number (counted n) false n (2 ^ 149) counted-value

  pub widen_low : (of_bits binary64 (to_bits binary64 (counted n)) ≡ of_bits binary32 n) × (to_bits binary64 (counted n) < 2 ^ 63)
  widen_low = (
    of_bits-to_bits binary64 (counted n) counted-fits
        ∙ value-unique binary64 (counted n) (of_bits binary32 n) false n (2 ^ 149) n (2 ^ 149) (pow_pos 149) (pow_pos 149)
        counted-fits (fits_widens (of_bits binary32 n) (of_bits-fits binary32 n)) counted-value (low_value binary32 n h) refl,
    unsigned binary64 (counted n) n (2 ^ 149) counted-fits counted-value,
  )

-- ---- from there up
pub widen-normal : (n : ℕ) → 2 ^ 23 ≤ n → n < 255 * 2 ^ 23 → of_bits binary64 (n * 2 ^ 29 + 896 * 2 ^ 52) ≡ of_bits binary32 n
widen-normal n g h =
    let x = n / 2 ^ 23 - 1 in
    let t = n % 2 ^ 23 in
    let b = suc (x + 896) * 2 ^ 52 + t * 2 ^ 29 in
    ap (of_bits binary64) (omega arith)
    ∙ value-unique binary64 (of_bits binary64 b) (of_bits binary32 (suc x * 2 ^ 23 + t)) false
    ((2 ^ 52 + t * 2 ^ 29) * 2 ^ (x + 896)) (2 ^ 1074) ((2 ^ 23 + t) * 2 ^ x) (2 ^ 149) (pow_pos 1074) (pow_pos 149)
    (of_bits-fits binary64 b) (fits_widens (of_bits binary32 (suc x * 2 ^ 23 + t)) (of_bits-fits binary32 (suc x * 2 ^ 23 + t)))
    (normal-value binary64 (x + 896) (t * 2 ^ 29) (omega arith) (omega arith)) (normal-value binary32 x t (omega arith) (mod-lt n (pow_pos 23))) (moved t x)
    ∙ ap (of_bits binary32) (omega arith)
  where
    moved : (t x : ℕ) → (2 ^ 52 + t * 2 ^ 29) * 2 ^ (x + 896) * 2 ^ 149 ≡ (2 ^ 23 + t) * 2 ^ x * 2 ^ 1074
    moved t x =
        let d = 2 ^ 23 + t in
        let w : 2 ^ 29 * (2 ^ (x + 896) * 2 ^ 149) ≡ 2 ^ x * 2 ^ 1074 = ap (λ (z : ℕ). 2 ^ 29 * z) (sym (pow-add 2 (x + 896) 149)) ∙ sym (pow-add 2 29 (x + 896 + 149)) ∙ ap (λ (z : ℕ). 2 ^ z) (omega arith) ∙ pow-add 2 x 1074 in
        ap (λ (z : ℕ). z * 2 ^ (x + 896) * 2 ^ 149) (omega arith) ∙ mul_assoc (d * 2 ^ 29) (2 ^ (x + 896)) (2 ^ 149) ∙ mul_assoc d (2 ^ 29) (2 ^ (x + 896) * 2 ^ 149) ∙ ap (λ (z : ℕ). d * z) w ∙ sym (mul_assoc d (2 ^ x) (2 ^ 1074))

pub widen-infinite : (n : ℕ) → n ≡ 255 * 2 ^ 23 → of_bits binary64 (2047 * 2 ^ 52) ≡ of_bits binary32 n
widen-infinite n e = infinite-bits binary64 ∙ sym (infinite-bits binary32) ∙ ap (of_bits binary32) (sym e)
