-- An f64's digits as an f32: which places are shifted out, by the exponent's field, and that the field and the digits
-- left add up to the f32's bits, a carry included. Assumes nothing.
use mathlib.Core.Path.{◌≡◌, refl, sym, ap, ◌∙◌, subst}
use mathlib.Core.Logic.{inl, inr}
use Prim.Native.Nat.{ℕ, suc, ◌+◌, ◌-◌, ◌*◌, ◌/◌, ◌%◌, ◌^◌, ◌≤◌, ◌<◌, zero-le, compare}
use native.Mathlib.Nat.{le_trans, le_of_eq, le_of_lt, le_antisymm, lt_of_lt_of_le, lt_of_not-le, not-le_of_lt, eq-or-lt_of_le, mul-one, mul_assoc, mul-pos, mul-le-mul_right, mul-lt-mul_of_pos_right, div-lt_iff_lt-mul, le-div_iff_mul-le, mod-lt}
use native.Mathlib.Omega.{arith}
use mathlib.Core.Bool.{false}
use lib.IntN.{pos}
use lib.Dec.{T, ltb, ltb→lt, not_T}
use lib.Pow.{pow_pos, pow-add, pow_mono}
use lib.Ieee.{Float, inf, fin, binary32, binary64, size, odd, units, round, fits, of_bits}
use lib.Ieee.Digits.{size-lt, size-le}
use lib.Ieee.Fits.{round_is, round-fits, nearest-le}
use lib.Ieee.Exact.{HasValue, units_val}
use lib.Ieee.Nearest.{closest, closest_mono, closest_same, nearest-ge}
use lib.Ieee.Bits.{of_bits-fits, cond_no}
use Rattle.numbers.specs.Narrowing.{narrowed}
use Rattle.ieee.proofs.Laws.Unique.{value-unique}
use Rattle.ieee.proofs.Laws.Bits.{low_value, normal-value, infinite-bits}
use Rattle.numbers.proofs.Laws.Narrowing.{narrow-value}

-- ---- D * 2 ^ x / 2 ^ 1074 rounded: p places are shifted out of D, and the last one kept stands for
-- 2 ^ k of the smallest f32
round-places : (D x p k : ℕ) → 1074 + k ≡ x + 149 + p → size (D * 2 ^ (x + 149) / 2 ^ 1074) - 24 ≡ k → round binary32 false (D * 2 ^ x) (2 ^ 1074) ≡ units binary32 false (closest D (2 ^ p)) k
round-places D x p k b d =
    let n = D * 2 ^ x * 2 ^ 149 in
    let e : n ≡ D * 2 ^ (x + 149) = mul_assoc D (2 ^ x) (2 ^ 149) ∙ ap (λ (c : ℕ). D * c) (sym (pow-add 2 x 149)) in
    round_is binary32 false (D * 2 ^ x) (2 ^ 1074)
    ∙ ap (λ (j : ℕ). units binary32 false (closest n (2 ^ 1074 * 2 ^ j)) j) (ap (λ (c : ℕ). size (c / 2 ^ 1074) - 24) e ∙ d)
    ∙ ap (λ (q : ℕ). units binary32 false q k) (closest_same n (2 ^ 1074 * 2 ^ k) D (2 ^ p) (mul-pos (pow_pos 1074) (pow_pos k)) (pow_pos p) (ap (λ (c : ℕ). c * 2 ^ p) e ∙ w))
  where
    w : D * 2 ^ (x + 149) * 2 ^ p ≡ D * (2 ^ 1074 * 2 ^ k)
    w = mul_assoc D (2 ^ (x + 149)) (2 ^ p) ∙ ap (λ (c : ℕ). D * c) (sym (pow-add 2 (x + 149) p) ∙ ap (λ (c : ℕ). 2 ^ c) (sym b) ∙ pow-add 2 1074 k)

-- how many digits are left of 53 with y zeros after them, 1074 cut off
size_exact : (D y a : ℕ) → 2 ^ 52 ≤ D → D < 2 ^ 53 → a + 1074 ≡ 52 + y → size (D * 2 ^ y / 2 ^ 1074) ≡ suc a
size_exact D y a lo hi e =
    let n = D * 2 ^ y / 2 ^ 1074 in
    let l : 2 ^ a ≤ n = (le-div_iff_mul-le (pow_pos 1074)).1 (le_trans (le_of_eq (sym (pow-add 2 a 1074) ∙ ap (λ (c : ℕ). 2 ^ c) e ∙ pow-add 2 52 y)) (mul-le-mul_right (2 ^ y) lo)) in
    let h : n < 2 ^ suc a = (div-lt_iff_lt-mul (pow_pos 1074)).1 (lt_of_lt_of_le (mul-lt-mul_of_pos_right hi (pow_pos y)) (le_of_eq (sym (pow-add 2 53 y) ∙ ap (λ (c : ℕ). 2 ^ c) (omega arith) ∙ pow-add 2 (suc a) 1074))) in
    le_antisymm (size-le n (suc a) h) (lt_of_not-le (λ (g : size n ≤ a). not-le_of_lt (lt_of_lt_of_le (size-lt n) (pow_mono g)) l))

-- from field 897 up 29 places go
round-normal : (D x : ℕ) → 2 ^ 52 ≤ D → D < 2 ^ 53 → 896 ≤ x → round binary32 false (D * 2 ^ x) (2 ^ 1074) ≡ units binary32 false (closest D (2 ^ 29)) (x - 896)
round-normal D x lo hi h = round-places D x 29 (x - 896) (omega arith) (ap (λ (c : ℕ). c - 24) (size_exact D (x + 149) (x - 873) lo hi (omega arith)) ∙ omega arith)

-- below it as many as bring the last one kept to 2 ^ -149
round-low : (D x : ℕ) → D < 2 ^ 53 → x < 896 → round binary32 false (D * 2 ^ x) (2 ^ 1074) ≡ units binary32 false (closest D (2 ^ (925 - x))) 0
round-low D x hi h = round-places D x (925 - x) 0 (omega arith) (few (size (D * 2 ^ (x + 149) / 2 ^ 1074)) (size-le (D * 2 ^ (x + 149) / 2 ^ 1074) 24 ((div-lt_iff_lt-mul (pow_pos 1074)).1 under)))
  where
    few : (n : ℕ) → n ≤ 24 → n - 24 ≡ 0
    few n h = omega arith

    under : D * 2 ^ (x + 149) < 2 ^ 24 * 2 ^ 1074
    under = lt_of_lt_of_le (mul-lt-mul_of_pos_right hi (pow_pos (x + 149))) (le_trans (le_of_eq (sym (pow-add 2 53 (x + 149)))) (le_trans (pow_mono {i = 53 + (x + 149)} {j = 24 + 1074} (omega arith)) (le_of_eq (pow-add 2 24 1074))))

-- ---- the bits of q * 2 ^ k of the smallest f32, for a q of 24 digits, or one more after
-- a carry, or fewer where k is 0
module _ (v : Float) (q k : ℕ) (held : T (fits binary32 v)) (is : v ≡ units binary32 false q k) where
  -- v is the number that the bits b stand for
  from-value : (b a : ℕ) → HasValue (of_bits binary32 b) false a (2 ^ 149) → a ≡ q * 2 ^ k → q * 2 ^ k < 2 ^ 277 → of_bits binary32 b ≡ v
  from-value b a h e l =
      value-unique binary32 (of_bits binary32 b) v false a (2 ^ 149) (q * 2 ^ k) (2 ^ 149) (pow_pos 149) (pow_pos 149) (of_bits-fits binary32 b) held h
      (rw is (units_val binary32 false q k l)) (ap (λ (z : ℕ). z * 2 ^ 149) e)

  -- q * 2 ^ k is below 2 ^ 277, where the infinity begins
  under : (i : ℕ) → q < 2 ^ i → i + k ≤ 277 → q * 2 ^ k < 2 ^ 277
  under i l h = lt_of_lt_of_le (mul-lt-mul_of_pos_right l (pow_pos k)) (le_trans (le_of_eq (sym (pow-add 2 i k))) (pow_mono h))

  -- 24 digits
  full : k ≤ 253 → 2 ^ 23 ≤ q → q < 2 ^ 24 → of_bits binary32 (k * 2 ^ 23 + q) ≡ v
  full h g l =
      let t = q - 2 ^ 23 in
      ap (of_bits binary32) (omega arith)
      ∙ from-value (suc k * 2 ^ 23 + t) ((2 ^ 23 + t) * 2 ^ k) (normal-value binary32 k t (omega arith) (omega arith)) (ap (λ (z : ℕ). z * 2 ^ k) (omega arith)) (under 24 l (omega arith))

  -- a carry makes the next field, with no digit below the leading one
  carried : k < 253 → q ≡ 2 ^ 24 → of_bits binary32 (k * 2 ^ 23 + q) ≡ v
  carried h e =
      ap (of_bits binary32) (omega arith)
      ∙ from-value (suc (suc k) * 2 ^ 23 + 0) (2 ^ 23 * 2 ^ suc k) (normal-value binary32 (suc k) 0 (omega arith) (omega arith))
      (sym (pow-add 2 23 (suc k)) ∙ ap (λ (z : ℕ). 2 ^ z) (omega arith) ∙ pow-add 2 24 k ∙ ap (λ (z : ℕ). z * 2 ^ k) (sym e)) (under 25 (omega arith) (omega arith))

  -- the infinity, where the carry goes into the last field
  topmost : k ≡ 253 → q ≡ 2 ^ 24 → of_bits binary32 (k * 2 ^ 23 + q) ≡ v
  unfolding units
  topmost z e =
      let a : of_bits binary32 (k * 2 ^ 23 + q) ≡ inf false = rw (z, e) (infinite-bits binary32) in
      let b : units binary32 false q k ≡ inf false = rw (z, e) in
      a ∙ sym (is ∙ b)

  bits-normal : 2 ^ 23 ≤ q → q ≤ 2 ^ 24 → k ≤ 253 → of_bits binary32 (k * 2 ^ 23 + q) ≡ v
  bits-normal g h l = elim (eq-or-lt_of_le h) [
    | inl e ↦ elim (eq-or-lt_of_le l) [ inl z ↦ topmost z e | inr m ↦ carried m e ]
    | inr m ↦ full l g m
  ]

  bits-low : k ≡ 0 → q ≤ 2 ^ 23 → of_bits binary32 q ≡ v
  bits-low z h = elim (eq-or-lt_of_le h) [
    | inl e ↦ ap (of_bits binary32) (omega arith) ∙ full (omega arith) (le_of_eq (sym e)) (omega arith)
    | inr m ↦ from-value q q (low_value binary32 q m) (rw z (sym (mul-one q))) (under 23 m (omega arith))
  ]

  bits-over : 2 ^ 23 ≤ q → 254 ≤ k → of_bits binary32 (255 * 2 ^ 23) ≡ v
  unfolding units
  bits-over g l = infinite-bits binary32 ∙ sym (is ∙ cond_no (ltb (q * 2 ^ k) (2 ^ 277)) (odd 25 false q k 149) (inf false) (not_T (ltb (q * 2 ^ k) (2 ^ 277)) (λ t. not-le_of_lt (ltb→lt (q * 2 ^ k) (2 ^ 277) t) over)))
    where
      over : 2 ^ 277 ≤ q * 2 ^ k
      over = le_trans (pow_mono {i = 277} {j = 23 + k} (omega arith)) (le_trans (le_of_eq (pow-add 2 23 k)) (mul-le-mul_right (2 ^ k) g))

-- ---- `narrowed` of an f64's bits n: the field is n / 2 ^ 52, the digits below the leading one are n % 2 ^ 52
near-ge : (D c w : ℕ) → 0 < c → w * c ≤ D → w ≤ closest D c
near-ge D c w C h = le_trans ((le-div_iff_mul-le C).1 h) (nearest-ge (D / c) (compare (D % c * 2) c))

near_le : (D c w : ℕ) → 0 < c → D < w * c → closest D c ≤ w
near_le D c w C h = le_trans (nearest-le (D / c) (compare (D % c * 2) c)) ((div-lt_iff_lt-mul C).1 h)

-- from field 1 up the digits are 53
digits_of : (n : ℕ) → 1 ≤ n / 2 ^ 52 → n / 2 ^ 52 < 2047 → narrowed (of_bits binary64 n) ≡ round binary32 false ((2 ^ 52 + n % 2 ^ 52) * 2 ^ (n / 2 ^ 52 - 1)) (2 ^ 1074)
digits_of n h l =
    let x = n / 2 ^ 52 - 1 in
    let t = n % 2 ^ 52 in
    narrow-value (of_bits binary64 n) false ((2 ^ 52 + t) * 2 ^ x) (2 ^ 1074) (pow_pos 1074)
    (subst (λ (b : ℕ). HasValue (of_bits binary64 b) false ((2 ^ 52 + t) * 2 ^ x) (2 ^ 1074)) (omega arith) (normal-value binary64 x t (omega arith) (mod-lt n (pow_pos 52))))

-- less than half the smallest f32: nothing is left
round-none : (D x : ℕ) → D < 2 ^ 53 → x < 872 → round binary32 false (D * 2 ^ x) (2 ^ 1074) ≡ fin false 0 (pos 0)
unfolding units
round-none D x h l = round-low D x h (omega arith) ∙ ap (λ (z : ℕ). units binary32 false z 0) (le_antisymm (closest_mono D (2 ^ (925 - x)) (2 ^ 53) (2 ^ 54) (pow_pos (925 - x)) (pow_pos 54) half) zero-le)
  where
    half : D * 2 ^ 54 ≤ 2 ^ 53 * 2 ^ (925 - x)
    half = le_trans (mul-le-mul_right (2 ^ 54) (le_of_lt h)) (le_trans (pow_mono {i = 53 + 54} {j = 53 + (925 - x)} (omega arith)) (le_of_eq (pow-add 2 53 (925 - x))))

pub narrow-none : (n : ℕ) → n / 2 ^ 52 < 873 → of_bits binary32 0 ≡ narrowed (of_bits binary64 n)
unfolding of_bits
narrow-none n h =
    let o : 0 ≤ n / 2 ^ 52 = zero-le in
    sym (elim (eq-or-lt_of_le o) [
      | inl z ↦ narrow-value (of_bits binary64 n) false n (2 ^ 1074) (pow_pos 1074) (low_value binary64 n (omega arith)) ∙ ap (λ (a : ℕ). round binary32 false a (2 ^ 1074)) (sym (mul-one n)) ∙ round-none n 0 (omega arith) (omega arith)
      | inr g ↦ digits_of n g (omega arith) ∙ round-none (2 ^ 52 + n % 2 ^ 52) (n / 2 ^ 52 - 1) (omega arith) (omega arith)
    ])

-- what `shifted` gives, where nothing was lost before
clean : (D p r : ℕ) → r ≡ closest (D * 2 + 0) (2 ^ (p + 2)) → r ≡ closest D (2 ^ (p + 1))
clean D p r e = e ∙ closest_same (D * 2 + 0) (2 ^ (p + 2)) D (2 ^ (p + 1)) (pow_pos (p + 2)) (pow_pos (p + 1)) (rw (pow-add 2 p 2, pow-add 2 p 1) (omega arith))

pub narrow-low : (n r : ℕ) → 1 ≤ n / 2 ^ 52 → n / 2 ^ 52 < 897 → r ≡ closest ((2 ^ 52 + n % 2 ^ 52) * 2 + 0) (2 ^ (28 + (897 - n / 2 ^ 52) + 2)) → (of_bits binary32 r ≡ narrowed (of_bits binary64 n)) × (r ≤ 2 ^ 23)
narrow-low n r g h e =
    let x = n / 2 ^ 52 - 1 in
    let D = 2 ^ 52 + n % 2 ^ 52 in
    let p = 925 - x in
    let v = round binary32 false (D * 2 ^ x) (2 ^ 1074) in
    let q : r ≡ closest D (2 ^ p) = clean D (28 + (897 - n / 2 ^ 52)) r e ∙ ap (λ (z : ℕ). closest D (2 ^ z)) (omega arith) in
    let w : D < 2 ^ 23 * 2 ^ p = lt_of_lt_of_le {m = 2 ^ 53} (omega arith) (le_trans (pow_mono {i = 53} {j = 23 + p} (omega arith)) (le_of_eq (pow-add 2 23 p))) in
    let l : closest D (2 ^ p) ≤ 2 ^ 23 = near_le D (2 ^ p) (2 ^ 23) (pow_pos p) w in
    (ap (of_bits binary32) q ∙ bits-low v (closest D (2 ^ p)) 0 (round-fits binary32 false (D * 2 ^ x) (2 ^ 1074)) (round-low D x (omega arith) (omega arith)) refl l ∙ sym (digits_of n g (omega arith)), rw q l)

-- 53 digits less 29 are 24, or one more after a carry
near-normal : (D : ℕ) → 2 ^ 52 ≤ D → D < 2 ^ 53 → (2 ^ 23 ≤ closest D (2 ^ 29)) × (closest D (2 ^ 29) ≤ 2 ^ 24)
near-normal D lo hi = (near-ge D (2 ^ 29) (2 ^ 23) (pow_pos 29) lo, near_le D (2 ^ 29) (2 ^ 24) (pow_pos 29) hi)

pub narrow-normal : (n r : ℕ) → 897 ≤ n / 2 ^ 52 → n / 2 ^ 52 < 1151 → r ≡ closest ((2 ^ 52 + n % 2 ^ 52) * 2 + 0) (2 ^ 30) → (of_bits binary32 ((n / 2 ^ 52 - 897) * 2 ^ 23 + r) ≡ narrowed (of_bits binary64 n)) × (r ≤ 2 ^ 24)
narrow-normal n r g h e =
    let x = n / 2 ^ 52 - 1 in
    let D = 2 ^ 52 + n % 2 ^ 52 in
    let b = near-normal D (omega arith) (omega arith) in
    let q : r ≡ closest D (2 ^ 29) = clean D 28 r e in (
      ap (λ (z : ℕ). of_bits binary32 ((n / 2 ^ 52 - 897) * 2 ^ 23 + z)) q
          ∙ ap (λ (z : ℕ). of_bits binary32 (z * 2 ^ 23 + closest D (2 ^ 29))) (omega arith)
          ∙ bits-normal (round binary32 false (D * 2 ^ x) (2 ^ 1074)) (closest D (2 ^ 29)) (x - 896) (round-fits binary32 false (D * 2 ^ x) (2 ^ 1074)) (round-normal D x (omega arith) (omega arith) (omega arith)) b.0 b.1 (omega arith)
          ∙ sym (digits_of n (omega arith) (omega arith)),
      rw q b.1,
    )

pub narrow-over : (n : ℕ) → 1151 ≤ n / 2 ^ 52 → n ≤ 2047 * 2 ^ 52 → of_bits binary32 (255 * 2 ^ 23) ≡ narrowed (of_bits binary64 n)
unfolding narrowed
narrow-over n g h = elim (eq-or-lt_of_le h) [
  | inl e ↦
      let i : narrowed (of_bits binary64 (2047 * 2 ^ 52)) ≡ inf false = ap narrowed (infinite-bits binary64) in
      infinite-bits binary32 ∙ sym i ∙ ap (λ (z : ℕ). narrowed (of_bits binary64 z)) (sym e)
  | inr l ↦
      let x = n / 2 ^ 52 - 1 in
      let D = 2 ^ 52 + n % 2 ^ 52 in
      bits-over (round binary32 false (D * 2 ^ x) (2 ^ 1074)) (closest D (2 ^ 29)) (x - 896) (round-fits binary32 false (D * 2 ^ x) (2 ^ 1074)) (round-normal D x (omega arith) (omega arith) (omega arith)) (near-normal D (omega arith) (omega arith)).0 (omega arith)
      ∙ sym (digits_of n (omega arith) (omega arith))
]
