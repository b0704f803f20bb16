-- The phase step from the fields of an f32's bits: the value that they stand for, how large the exponent's field is
-- below 2^14, and that the code's quotient gives the step. Assumes nothing.
use Rattle.std.proofs.Common.{◌≡◌, ℕ, zero, suc, ◌+◌, ◌-◌, ◌*◌, ◌/◌, ◌%◌, ◌^◌, ◌<◌, ◌≤◌, min, Bool, true, false, not, T, eqb, ltb, leb, pos, sym, refl, ap, ◌∙◌, subst, inl, inr, le_trans, le_of_eq, lt_of_lt_of_le, lt_of_le_of_lt, lt_irrefl, mul-le-mul_right, mod-lt, zero-lt-suc, mul-pos, zero-add, zero-mul, arith, lit≤, pow_pos, pow_mono, pow-add, shl_lt, le-ltb, lt-ltb}
use native.Mathlib.Nat.{min-eq_left, min-eq_right}
use lib.Arith.{lt_of_le-ne}
use lib.Ieee.{Float, fin, binary32, neg, lt, fits, of_fields, of_bits, to_bits}
use lib.Ieee.Bits.{of_bits-to_bits, to_bits-lt}
use lib.Ieee.Exact.{HasValue}
use lib.Ieee.Scale.{finite}
use Rattle.ieee.proofs.Laws.Test.{order}
use Rattle.ieee.proofs.Laws.NotFinite.{inf-or-nan}
use Rattle.ieee.proofs.Laws.Round.{neg_value}
use Rattle.ieee.proofs.Laws.Held.{pow_below}
use Rattle.ieee.proofs.Laws.Bits.{low_value, normal-value, sign_bit}
use Rattle.ieee.proofs.Laws.Order.{has-val, lt→vals, inside-finite}
use Rattle.modulate.specs.Step.{wrapped, rounded, phase_step, bits_range}
use Rattle.modulate.proofs.Laws.Rounded.{rounded-same, rounded-small, step_of}
use Rattle.modulate.proofs.Laws.StepBits.{quotient, shift-halved, shift-room}

-- ---- the value that the bits stand for
-- the exponent's field, and the digits
abbrev pub field : ℕ → ℕ
field b = b / 2 ^ 23 % 256

abbrev pub digits : ℕ → ℕ
digits b = b % 2 ^ 23

-- how many times 2^-149 they are
abbrev count : ℕ → ℕ → ℕ
count zero t = t
count (suc x) t = (2 ^ 23 + t) * 2 ^ x

-- whether they have the sign
abbrev sign : ℕ → Bool
sign b = not (ltb b (2 ^ 31))

size-value : (x t : ℕ) → x < 255 → t < 2 ^ 23 → HasValue (of_bits binary32 (x * 2 ^ 23 + t)) false (count x t) (2 ^ 149)
size-value zero t h k = rw (zero-mul (2 ^ 23), zero-add t) (low_value binary32 t k)
size-value (suc x) t h k = normal-value binary32 x t h k

bits-value : (b : ℕ) → b < 2 ^ 32 → field b < 255 → HasValue (of_bits binary32 b) (sign b) (count (field b) (digits b)) (2 ^ 149)
bits-value b h k = elim (order b (2 ^ 31)) [ inl l ↦ rw (lt-ltb b (2 ^ 31) l) (plain l) | inr l ↦ rw (le-ltb b (2 ^ 31) l) (signed l) ]
  where
    own : HasValue (of_bits binary32 (field b * 2 ^ 23 + digits b)) false (count (field b) (digits b)) (2 ^ 149)
    own = size-value (field b) (digits b) k (mod-lt b (pow_pos 23))

    plain : b < 2 ^ 31 → HasValue (of_bits binary32 b) false (count (field b) (digits b)) (2 ^ 149)
    plain l =
        let e : field b * 2 ^ 23 + digits b ≡ b = omega arith in
        subst (λ (z : ℕ). HasValue (of_bits binary32 z) false (count (field b) (digits b)) (2 ^ 149)) e own

    signed : 2 ^ 31 ≤ b → HasValue (of_bits binary32 b) true (count (field b) (digits b)) (2 ^ 149)
    signed l =
        let n = field b * 2 ^ 23 + digits b in
        let e : 1 * 2 ^ 31 + n ≡ b = omega arith in
        subst (λ (v : Float). HasValue v true (count (field b) (digits b)) (2 ^ 149)) (sym (sign_bit binary32 1 n (omega arith) (omega arith)) ∙ ap (of_bits binary32) e) (neg_value (of_bits binary32 n) _ _ own)

-- all ones in the field are an infinity's or a NaN's
finite-field : (b : ℕ) → T (finite (of_bits binary32 b)) → field b < 255
unfolding of_bits of_fields
finite-field b h =
    lt_of_le-ne (omega arith)
    (λ (e : field b ≡ 255). inf-or-nan (eqb (digits b) 0) (leb (2 ^ 31) b) (subst (λ (z : ℕ). T (finite (of_fields binary32 (leb (2 ^ 31) b) z (digits b)))) {x = b % 2 ^ 31 / 2 ^ 23} {y = 255} (omega arith) h))

-- ---- below 2^14 in size
small-finite : (v : Float) → T (lt (neg bits_range) v) → T (lt v bits_range) → T (finite v)
small-finite v h k = inside-finite bits_range v tt h k

size-lt : (v : Float) (s : Bool) (a c : ℕ) → 0 < c → HasValue v s a c → T (lt (neg bits_range) v) → T (lt v bits_range) → a < 2 ^ 14 * c
unfolding neg
size-lt v false a c C u h k = let l = lt→vals v bits_range a 0 c (2 ^ 14) 0 1 C (zero-lt-suc 0) (has-val v false a c u) (tt, refl) k in omega arith
size-lt v true a c C u h k = let l = lt→vals (fin true 1 (pos 14)) v 0 (2 ^ 14) 1 0 a c (zero-lt-suc 0) C (tt, refl) (has-val v true a c u) h in omega arith

count_small : (x t : ℕ) → count x t < 2 ^ 163 → x ≤ 140
count_small zero t h = omega arith
count_small (suc x) t h =
    let g : 2 ^ 23 * 2 ^ x ≤ (2 ^ 23 + t) * 2 ^ x = mul-le-mul_right (2 ^ x) (omega arith) in
    let l : 23 + x < 163 = pow_below (23 + x) 163 (lt_of_le_of_lt (le_trans (le_of_eq (pow-add 2 23 x)) g) h) in
    omega arith

-- ---- what the code shifts, and by how many places
abbrev pub shifted : ℕ → ℕ
shifted t = (t + 2 ^ 23) * 2 ^ 39

abbrev pub places : ℕ → ℕ
places x = min (156 - x) 63

-- it has the same floor as the value times 2^32: below field 94 both are less than a half
count-lt : (x t : ℕ) → t < 2 ^ 23 → count x t < 2 ^ (23 + x)
count-lt zero t h = h
count-lt (suc x) t h = subst (λ (z : ℕ). (2 ^ 23 + t) * 2 ^ x < 2 ^ z) {x = 24 + x} {y = 23 + suc x} (omega arith) (shl_lt 24 x (omega arith))

floor-low : (s : Bool) (x t : ℕ) → x < 94 → t < 2 ^ 23 → rounded s (shifted t) (2 * 2 ^ places x) ≡ rounded s (count x t * 2 ^ 32) (2 ^ 149)
floor-low s x t l k =
    rw (min-eq_right {n = 63} {m = 156 - x} (omega arith), rounded-small s (shifted t) (2 * 2 ^ 63) (omega arith))
    (sym (rounded-small s (count x t * 2 ^ 32) (2 ^ 149) (scale (count x t) (2 ^ 116) (lt_of_lt_of_le (count-lt x t k) (pow_mono {i = 23 + x} {j = 116} (omega arith))))))
  where
    scale : (a p : ℕ) → a < p → 2 * (a * 2 ^ 32) < p * 2 ^ 33
    scale a p h = omega arith

-- from there up the fractions are equal
floor-high : (s : Bool) (x t : ℕ) → 94 ≤ x → x ≤ 140 → rounded s (shifted t) (2 * 2 ^ places x) ≡ rounded s (count x t * 2 ^ 32) (2 ^ 149)
floor-high s zero t l h = absurd (lt_irrefl 0 (omega arith))
floor-high s (suc x) t l h =
    let k = 156 - suc x in
    let e : 2 ^ x * 2 ^ k ≡ 2 ^ 155 = sym (pow-add 2 x k) ∙ ap (λ (z : ℕ). 2 ^ z) {x = x + k} {y = 155} (omega arith) in
    rw (min-eq_left {n = k} {m = 63} (omega arith))
    (rounded-same s (shifted t) (2 * 2 ^ k) (count (suc x) t * 2 ^ 32) (2 ^ 149) (mul-pos (zero-lt-suc 1) (pow_pos k)) (pow_pos 149) (cross (2 ^ x) (2 ^ k) (2 ^ 149) e))
  where
    cross : (p q w : ℕ) → p * q ≡ 2 ^ 6 * w → (t + 2 ^ 23) * 2 ^ 39 * w ≡ (2 ^ 23 + t) * p * 2 ^ 32 * (2 * q)
    cross p q w e = let g = ap (λ (z : ℕ). t * z) e in omega arith

same-floor : (s : Bool) (x t : ℕ) → x ≤ 140 → t < 2 ^ 23 → rounded s (shifted t) (2 * 2 ^ places x) ≡ rounded s (count x t * 2 ^ 32) (2 ^ 149)
same-floor s x t h k = elim (order x 94) [ inl l ↦ floor-low s x t l k | inr l ↦ floor-high s x t l h ]

-- ---- the phase step
-- the code's quotient, of the bits b
abbrev pub bits_quotient : ℕ → ℕ
bits_quotient b = quotient (ltb b (2 ^ 31)) (shifted (digits b)) (2 ^ places (field b))

module _ (v : Float) (held : T (fits binary32 v)) (lo : T (lt (neg bits_range) v)) (hi : T (lt v bits_range)) where
  own_value : let b = to_bits binary32 v in HasValue v (sign b) (count (field b) (digits b)) (2 ^ 149)
  own_value =
      let b = to_bits binary32 v in
      let e = of_bits-to_bits binary32 v held in
      subst (λ (z : Float). HasValue z (sign b) (count (field b) (digits b)) (2 ^ 149)) e
      (bits-value b (to_bits-lt binary32 v held) (finite-field b (subst (λ (z : Float). T (finite z)) (sym e) (small-finite v lo hi))))

  count-bound : let b = to_bits binary32 v in count (field b) (digits b) < 2 ^ 14 * 2 ^ 149
  count-bound = size-lt v _ _ (2 ^ 149) (pow_pos 149) own_value lo hi

  pub field-le : field (to_bits binary32 v) ≤ 140
  field-le = count_small _ _ count-bound

  pub places-room : (2 ^ 63 - 1) / 2 ^ places (field (to_bits binary32 v)) ≤ 2 ^ 47
  places-room =
      let b = to_bits binary32 v in
      let l = field-le in
      shift-room (shifted (digits b)) (places (field b)) (omega arith) (omega arith) (omega arith)

  pub step-of-bits : bits_quotient (to_bits binary32 v) / 2 % 2 ^ 32 ≡ phase_step v
  step-of-bits =
      let b = to_bits binary32 v in
      let l = field-le in
      shift-halved (shifted (digits b)) (places (field b)) (omega arith) (omega arith) (omega arith) (ltb b (2 ^ 31))
      ∙ ap (wrapped (sign b)) (same-floor (sign b) (field b) (digits b) l (mod-lt b (pow_pos 23)))
      ∙ sym (step_of v (sign b) (count (field b) (digits b)) (2 ^ 149) (pow_pos 149) own_value (lt_of_lt_of_le count-bound (lit≤ tt)))
