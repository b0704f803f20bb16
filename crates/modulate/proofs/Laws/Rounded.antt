-- `rounded` is floor(±a / c + 1/2), and `phase_step` of a value below 2^31 in size is that floor modulo 2^32,
-- whichever fraction the value is written as. Assumes nothing.
use Rattle.std.proofs.Common.{◌≡◌, ℕ, ◌+◌, ◌-◌, ◌*◌, ◌^◌, ◌<◌, Bool, true, false, cond, sym, ap, inl, inr, mul-le-mul_right, lt_of_mul-lt-mul_right, mul-lt-mul_of_pos_right, div-mul-le_self, le_of_mul-le-mul_right, arith}
use native.Mathlib.Nat.{lt-div-mul-add, div-eq_of_lt, div-eq_of_lt-le}
use lib.Ieee.{Float, nan, inf, fin, up, down}
use lib.Ieee.Fits.{down_pos}
use lib.Ieee.Exact.{HasValue}
use borrow.Author.Tests.{lt-leb}
use Rattle.ieee.proofs.Laws.Test.{order}
use Rattle.modulate.specs.Step.{wrapped, half_more, rounded, phase_step, Floored, Wraps}

pub rounded-floor : (s : Bool) (a c : ℕ) → 0 < c → Floored s a c (rounded s a c)
rounded-floor false a c C =
    let x = half_more false a c in
    let h = div-mul-le_self x (2 * c) in
    let k = lt-div-mul-add {a = x} {b = 2 * c} (omega arith) in
    (omega arith, omega arith)
rounded-floor true a c C =
    let x = half_more true a c in
    let k = lt-div-mul-add {a = x + (2 * c - 1)} {b = 2 * c} (omega arith) in (
      omega arith,
      elim (order (2 * a) c) [
        | inl l ↦ let z : rounded true a c ≡ 0 = div-eq_of_lt (omega arith) in rw z (omega arith)
        | inr l ↦ let h = div-mul-le_self (x + (2 * c - 1)) (2 * c) in omega arith
      ],
    )

-- and it is the only one
pub rounded-unique : (s : Bool) (a c n : ℕ) → Floored s a c n → rounded s a c ≡ n
rounded-unique false a c n h = div-eq_of_lt-le {k = n} (2 * c) h.0 (omega arith)
rounded-unique true a c n h = div-eq_of_lt-le {k = n} (2 * c) (omega arith) (omega arith)

-- ---- fractions that are equal have one floor
floored-same : (s : Bool) (a c a' c' n : ℕ) → 0 < c → 0 < c' → a * c' ≡ a' * c → Floored s a c n → Floored s a' c' n
floored-same false a c a' c' n C C' e h =
    let p = mul-le-mul_right c' h.0 in
    let q = mul-lt-mul_of_pos_right h.1 C' in
    (le_of_mul-le-mul_right {k = c} (omega arith) C, lt_of_mul-lt-mul_right c (omega arith))
floored-same true a c a' c' n C C' e h =
    let p = mul-le-mul_right c' h.0 in
    let q = mul-lt-mul_of_pos_right h.1 C' in
    (le_of_mul-le-mul_right {k = c} (omega arith) C, lt_of_mul-lt-mul_right c (omega arith))

pub rounded-same : (s : Bool) (a c a' c' : ℕ) → 0 < c → 0 < c' → a * c' ≡ a' * c → rounded s a c ≡ rounded s a' c'
rounded-same s a c a' c' C C' e = sym (rounded-unique s a' c' (rounded s a c) (floored-same s a c a' c' (rounded s a c) C C' e (rounded-floor s a c C)))

-- ---- below a half in size it is 0
pub rounded-small : (s : Bool) (a c : ℕ) → 2 * a < c → rounded s a c ≡ 0
rounded-small false a c h = rounded-unique false a c 0 (omega arith, omega arith)
rounded-small true a c h = rounded-unique true a c 0 (omega arith, omega arith)

-- ---- `wrapped` is the one number below 2^32 that is ±k but for a multiple of 2^32
pub wrapped-is : (s : Bool) (k : ℕ) → Wraps (wrapped s k) (cond s 0 k) (cond s k 0)
wrapped-is false k = record { small = omega arith; same = omega arith }
wrapped-is true k = record { small = omega arith; same = omega arith }

-- a - b being ±k
pub wrapped-unique : (s : Bool) (k a b r : ℕ) → a + cond s k 0 ≡ cond s 0 k + b → Wraps r a b → r ≡ wrapped s k
wrapped-unique false k a b r e w = let x = w.small in let y = w.same in omega arith
wrapped-unique true k a b r e w = let x = w.small in let y = w.same in omega arith

-- ---- the phase step of a value ±a / c
pub step_of : (x : Float) (s : Bool) (a c : ℕ) → 0 < c → HasValue x s a c → a < 2 ^ 31 * c → phase_step x ≡ wrapped s (rounded s (a * 2 ^ 32) c)
unfolding phase_step
step_of nan s a c C v h = absurd v
step_of (inf t) s a c C v h = absurd v
step_of (fin t m e) s a c C v h =
    let b = m * up e in
    let d = down e in
    let q : b * c ≡ a * d = v.1 in
    let p = mul-lt-mul_of_pos_right h (down_pos e) in
    rw (lt-leb (2 ^ 31 * d) b (lt_of_mul-lt-mul_right c (omega arith)), v.0)
    (ap (wrapped s) (rounded-same s (b * 2 ^ 32) d (a * 2 ^ 32) c (down_pos e) C (omega arith)))
