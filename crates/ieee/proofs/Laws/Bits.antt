-- A float by its bits: the value that the bits below the sign stand for, and what the sign adds.
-- Every law is over the format. Assumes nothing.
use mathlib.Core.Path.{◌≡◌, refl, sym, ap, ◌∙◌, subst}
use mathlib.Core.Logic.{inl, inr}
use Prim.Native.Nat.{ℕ, zero, suc, ◌+◌, ◌-◌, ◌*◌, ◌/◌, ◌%◌, ◌^◌, ◌≤◌, ◌<◌}
use native.Mathlib.Nat.{lt_irrefl, lt_trans, eq-or-lt_of_le, zero-lt-suc, pow-suc, suc-mul, mul-one, div-add-mod', mod-lt, div-lt_iff_lt-mul}
use native.Mathlib.Omega.{arith}
use mathlib.Core.Bool.{Bool, true, false, not, cond}
use lib.IntN.{ℤ}
use lib.Dec.{T, leb, eqb, eqb→eq, nltb→le, not_T, lit<}
use lib.Pow.{pow_pos}
use lib.Ieee.{Float, nan, inf, fin, Format, binary32, binary64, prec, low, odd, neg, fits, is_nan, hid, ones, top, of_fields, of_bits, to_bits}
use lib.Ieee.Fits.{neg-fits}
use lib.Ieee.Exact.{HasValue, odd_sign}
use lib.Ieee.Bits.{of_bits-to_bits, of_bits-fits, to_bits-of_bits, to_bits-lt, nan_bits_is, nan_bits_above, is_false}
use borrow.Author.Tests.{le-leb, lt-leb}
use Rattle.ieee.specs.Alike.{with_sign}
use Rattle.ieee.proofs.Laws.Round.{odd-neg}
use Rattle.ieee.proofs.Laws.Unique.{value-unique}

-- ---- the bits below the sign: the exponent's field x and the digits t
no_sign : (f : Format) (x t : ℕ) → x ≤ ones f → t < hid f → leb (top f) (x * hid f + t) ≡ false
no_sign binary32 x t h k = lt-leb (top binary32) (x * hid binary32 + t) (omega arith)
no_sign binary64 x t h k = lt-leb (top binary64) (x * hid binary64 + t) (omega arith)

field_is : (f : Format) (x t : ℕ) → x ≤ ones f → t < hid f → (x * hid f + t) % top f / hid f ≡ x
field_is binary32 x t h k = omega arith
field_is binary64 x t h k = omega arith

digits_are : (f : Format) (x t : ℕ) → t < hid f → (x * hid f + t) % hid f ≡ t
digits_are binary32 x t k = omega arith
digits_are binary64 x t k = omega arith

fields : (f : Format) (x t : ℕ) → x ≤ ones f → t < hid f → of_bits f (x * hid f + t) ≡ of_fields f false x t
unfolding of_bits
fields f x t h k = rw (no_sign f x t h k, field_is f x t h k, digits_are f x t k)

-- with a field of 0 the digits count the smallest values
pub low_value : (f : Format) (t : ℕ) → t < hid f → HasValue (of_bits f t) false t (2 ^ low f)
low_value f t k =
    rw (ap (of_bits f) (plain (hid f)) ∙ fields f 0 t (omega arith) k)
    (subst (λ (n : ℕ). HasValue (of_fields f false 0 t) false n (2 ^ low f)) (mul-one t) (unfold of_fields in odd_sign (prec f) false t 0 (low f)))
  where
    plain : (w : ℕ) → t ≡ 0 * w + t
    plain w = omega arith

-- with any other there is one digit more
pub normal-value : (f : Format) (x t : ℕ) → suc x < ones f → t < hid f → HasValue (of_bits f (suc x * hid f + t)) false ((hid f + t) * 2 ^ x) (2 ^ low f)
normal-value f x t h k = subst (λ (v : Float). HasValue v false ((hid f + t) * 2 ^ x) (2 ^ low f)) (sym (fields f (suc x) t (omega arith) k ∙ finite-field)) (odd_sign (prec f) false (hid f + t) x (low f))
  where
    not-ones : T (not (eqb (suc x) (ones f)))
    not-ones = not_T (eqb (suc x) (ones f)) (λ e. lt_irrefl (ones f) (subst (λ (z : ℕ). z < ones f) (eqb→eq (suc x) (ones f) e) h))

    finite-field : of_fields f false (suc x) t ≡ odd (prec f) false (hid f + t) x (low f)
    finite-field = unfold of_fields in rw (is_false (eqb (suc x) (ones f)) not-ones)

pub infinite-bits : (f : Format) → of_bits f (ones f * hid f) ≡ inf false
unfolding of_bits
infinite-bits binary32 = refl
infinite-bits binary64 = refl

-- ---- the sign
fields_neg : (f : Format) (x t : ℕ) → of_fields f true x t ≡ neg (of_fields f false x t)
unfolding of_fields
fields_neg f zero t = odd-neg (prec f) false t 0 (low f)
fields_neg f (suc x) t = go (eqb (suc x) (ones f)) (eqb t 0)
  where
    go : (a b : Bool) → cond a (cond b (inf true) nan) (odd (prec f) true (hid f + t) x (low f)) ≡ neg (cond a (cond b (inf false) nan) (odd (prec f) false (hid f + t) x (low f)))
    go true true = unfold neg in refl
    go true false = unfold neg in refl
    go false b = odd-neg (prec f) false (hid f + t) x (low f)

above : (f : Format) (n : ℕ) → n < top f → (leb (top f) (top f + n) ≡ true) × (leb (top f) n ≡ false) × ((top f + n) % top f / hid f ≡ n % top f / hid f) × ((top f + n) % hid f ≡ n % hid f)
above binary32 n h = (le-leb (top binary32) (top binary32 + n) (omega arith), lt-leb (top binary32) n h, omega arith, omega arith)
above binary64 n h = (le-leb (top binary64) (top binary64 + n) (omega arith), lt-leb (top binary64) n h, omega arith, omega arith)

pub sign_bit : (f : Format) (k n : ℕ) → k < 2 → n < top f → of_bits f (k * top f + n) ≡ with_sign k (of_bits f n)
sign_bit f zero n l h = ap (of_bits f) (omega arith)
sign_bit f (suc zero) n l h = ap (λ (z : ℕ). of_bits f (z + n)) (omega arith) ∙ go
  where
    go : of_bits f (top f + n) ≡ neg (of_bits f n)
    go = let a = above f n h in unfold of_bits in rw (a.0, a.1, a.2, a.3) (fields_neg f (n % top f / hid f) (n % hid f))
sign_bit f (suc (suc k)) n l h = absurd (lt_irrefl 0 (omega arith))

-- the sign's bit is the highest
bits-neg : (f : Format) (m : ℕ) (e : ℤ) → to_bits f (fin true m e) ≡ top f + to_bits f (fin false m e)
unfolding to_bits
bits-neg f m e = omega arith

pub unsigned : (f : Format) (x : Float) (a c : ℕ) → T (fits f x) → HasValue x false a c → to_bits f x < top f
unsigned f (fin false m e) a c h v = below (top f) (to_bits f (fin false m e)) (subst (λ (z : ℕ). z < 2 * top f) (bits-neg f m e) (to_bits-lt f (fin true m e) (unfold neg in neg-fits f (fin false m e) h)))
  where
    below : (w n : ℕ) → w + n < 2 * w → n < w
    below w n h = omega arith
unsigned f (fin true m e) a c h v = absurd (subst T v.0 tt)
unsigned f nan a c h v = elim v [ ]
unsigned f (inf _) a c h v = elim v [ ]

-- ---- a float that the format holds, taken apart
top_pos : (f : Format) → 0 < top f
top_pos binary32 = omega arith
top_pos binary64 = omega arith

pub sign-lt : (f : Format) (x : Float) → T (fits f x) → to_bits f x / top f < 2
sign-lt f x h = (div-lt_iff_lt-mul (top_pos f)).1 (to_bits-lt f x h)

pub parts : (f : Format) (x : Float) → T (fits f x) → with_sign (to_bits f x / top f) (of_bits f (to_bits f x % top f)) ≡ x
parts f x h =
    let b = to_bits f x in
    sym (sign_bit f (b / top f) (b % top f) (sign-lt f x h) (mod-lt b (top_pos f))) ∙ ap (of_bits f) (div-add-mod' b (top f)) ∙ of_bits-to_bits f x h

pub size-le : (f : Format) (x : Float) → T (fits f x) → T (not (is_nan x)) → to_bits f x % top f ≤ ones f * hid f
size-le f x h n = nltb→le (ones f * hid f) (to_bits f x % top f) (subst (λ (b : Bool). T (not b)) (ap is_nan (sym (of_bits-to_bits f x h)) ∙ sym (nan_bits_is f (to_bits f x)) ∙ nan_bits_above f (to_bits f x)) n)

-- ---- a whole number from hid to its double, hid + t: at the double the digits carry into the field
pub value-number : (v : Float) (s : Bool) (a c : ℕ) → HasValue v s a c → T (not (is_nan v))
unfolding is_nan
value-number (fin t m e) s a c h = tt
value-number nan s a c h = elim h [ ]
value-number (inf _) s a c h = elim h [ ]

bits_of : (f : Format) (x : Float) (n y t : ℕ) → T (fits f x) → HasValue x false n 1 → suc y < ones f → t < hid f → n * 2 ^ low f ≡ (hid f + t) * 2 ^ y → to_bits f x ≡ suc y * hid f + t
bits_of f x n y t h v g k e =
    let b = suc y * hid f + t in
    let w = normal-value f y t g k in
    ap (to_bits f) (value-unique f x (of_bits f b) false n 1 ((hid f + t) * 2 ^ y) (2 ^ low f) (zero-lt-suc 0) (pow_pos (low f)) h (of_bits-fits f b) v w (e ∙ sym (mul-one ((hid f + t) * 2 ^ y))))
    ∙ to_bits-of_bits f b (within f g k) (value-number (of_bits f b) false _ _ w)
  where
    within : (f : Format) → suc y < ones f → t < hid f → suc y * hid f + t < 2 * top f
    within binary32 g k = omega arith
    within binary64 g k = omega arith

pub whole-bits : (f : Format) (x : Float) (t : ℕ) → T (fits f x) → HasValue x false (hid f + t) 1 → t ≤ hid f → to_bits f x ≡ suc (low f) * hid f + t
whole-bits f x t h v k = elim (eq-or-lt_of_le k) [
  | inl e ↦ bits_of f x (hid f + t) (suc (low f)) 0 h v (room f) (pow_pos (prec f - 1)) (twice (hid f) (2 ^ low f) (2 ^ suc (low f)) (pow-suc 2 (low f)) e) ∙ carry (low f) (hid f) e
  | inr l ↦ bits_of f x (hid f + t) (low f) t h v (lt_trans (next (low f)) (room f)) l refl
]
  where
    room : (f : Format) → suc (suc (low f)) < ones f
    room binary32 = lit< tt
    room binary64 = lit< tt

    next : (l : ℕ) → suc l < suc (suc l)
    next l = omega arith

    twice : (w l k : ℕ) → k ≡ l * 2 → t ≡ w → (w + t) * l ≡ (w + 0) * k
    twice w l k e g = rw (e, g) (omega arith)

    carry : (l w : ℕ) → t ≡ w → suc (suc l) * w + 0 ≡ suc l * w + t
    carry l w e = rw e (let a = suc-mul (suc l) w in omega arith)
