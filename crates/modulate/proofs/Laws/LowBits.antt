-- The step from the bits: for |v| < 2^51, v + 1.5 × 2^52 rounds to a whole number beside v, moved up, and its low 32
-- bits are that number modulo 2^32. Assumes nothing.
use Rattle.std.proofs.Common.{◌≡◌, ℕ, suc, ◌+◌, ◌-◌, ◌*◌, ◌%◌, ◌^◌, ◌<◌, ◌≤◌, Bool, true, false, cond, not, T, pos, sym, refl, ap, ◌∙◌, subst, inl, inr, mul-le-mul_right, zero-lt-suc, lt_of_mul-lt-mul_right, mul-pos, arith}
use lib.Ieee.{Float, fin, binary64, add, sub, neg, lt, is_nan, to_bits}
use lib.Ieee.Fits.{add-fits}
use lib.Ieee.Exact.{HasValue}
use lib.Ieee.Scale.{finite}
use lib.Ieee.Positive.{den, den_pos}
use Rattle.ieee.specs.Fraction.{plus, less, Val}
use Rattle.ieee.proofs.Laws.Nan.{finite-not-nan}
use Rattle.ieee.proofs.Laws.Order.{own_val, val-has, val_same, lt→vals, le→vals, not-lt→le, finite_number, inside-finite, inside-size}
use Rattle.ieee.proofs.Laws.Rounds.{add_at, sub_at}
use Rattle.ieee.proofs.Laws.Exact.{rounds-whole}
use Rattle.ieee.proofs.Laws.Bits.{whole-bits}
use Rattle.numbers.specs.Whole.{floor_plus, floor_less}
use Rattle.numbers.proofs.Laws.Whole.{floor-under, floor-next, floor-size}
use Rattle.numbers.proofs.Laws.Beside.{lands}
use Rattle.modulate.specs.Step.{stepped, magic_range}
use Rattle.modulate.proofs.Laws.Stepped.{Sized, stepped-own}

-- 1.5 × 2^52
abbrev pub magic : Float
magic = fin false 3 (pos 51)

-- equal modulo 2^32, with a number added, and without it again
add_same : (a b n : ℕ) → a % 2 ^ 32 ≡ b % 2 ^ 32 → (a + n) % 2 ^ 32 ≡ (b + n) % 2 ^ 32
add_same a b n h = omega arith

take_same : (a b n : ℕ) → (a + n) % 2 ^ 32 ≡ (b + n) % 2 ^ 32 → a % 2 ^ 32 ≡ b % 2 ^ 32
take_same a b n h = omega arith

-- r + u is B and B + l is p + u, so r + l is p
taken-off : (r u B l p : ℕ) → (r + u) % 2 ^ 32 ≡ B % 2 ^ 32 → (B + l) % 2 ^ 32 ≡ (p + u) % 2 ^ 32 → (r + l) % 2 ^ 32 ≡ p % 2 ^ 32
taken-off r u B l p h g = take_same (r + l) p u (ap (λ (n : ℕ). n % 2 ^ 32) (swap r l u) ∙ add_same (r + u) B l h ∙ g)
  where
    swap : (r l u : ℕ) → r + l + u ≡ r + u + l
    swap r l u = omega arith

module _ (v : Float) (lo : T (lt (neg magic_range) v)) (hi : T (lt v magic_range)) where
  fine : T (finite v)
  fine = inside-finite magic_range v tt lo hi

  in_size : (k : ℕ) → 2 ^ 51 ≤ k → Sized k (plus v) (less v) (den v)
  in_size k h =
      let s = inside-size 51 v lo hi in
      let c = mul-le-mul_right (den v) h in
      record { high = omega arith; deep = omega arith }

  floor-in : (floor_plus v < 2 ^ 51 + floor_less v) × (floor_less v < 2 ^ 51 + suc (floor_plus v))
  floor-in = let w = in_size (2 ^ 51) (omega arith) in floor-size v (2 ^ 51) fine w.high w.deep

  -- k - floor_less v is the whole number beside v
  data Moved : Type 0 where
    moved : (k : ℕ) → floor_plus v ≤ k → k ≤ suc (floor_plus v) → Val (add binary64 v magic) (k + 3 * 2 ^ 51) (floor_less v) 1 → Moved

  sum_moved : Moved
  sum_moved =
      let b = floor-in in
      let m = add binary64 v magic in
      let a = floor_plus v + 3 * 2 ^ 51 in
      let under = floor-under v fine in
      let next = floor-next v fine in
      elim (lands m _ _ _ a (floor_less v) 1 (mul-pos (den_pos v) (zero-lt-suc 0)) (add-fits binary64 v magic)
      (add_at binary64 v magic (plus v) (less v) (den v) (3 * 2 ^ 51) 0 1 (den_pos v) (zero-lt-suc 0) (own_val v fine) (tt, refl))
      (omega arith) (omega arith) (omega arith) (inl (omega arith)) (omega arith) (omega arith)) [
        | inl s ↦ moved (floor_plus v) (omega arith) (omega arith) s
        | inr s ↦ moved (suc (floor_plus v)) (omega arith) (omega arith) (val_same m (suc a) (floor_less v) 1 _ _ (omega arith) s.1)
      ]

  pub sum_number : T (not (is_nan (add binary64 v magic)))
  sum_number = go sum_moved
    where
      go : Moved → T (not (is_nan (add binary64 v magic)))
      go (moved k a b s) = finite-not-nan (add binary64 v magic) s.0

  module _ (k : ℕ) (least : floor_plus v ≤ k) (most : k ≤ suc (floor_plus v)) (s : Val (add binary64 v magic) (k + 3 * 2 ^ 51) (floor_less v) 1) where
    low-is : (to_bits binary64 (add binary64 v magic) + floor_less v) % 2 ^ 32 ≡ k % 2 ^ 32
    low-is =
        let b = floor-in in
        let d = k + 2 ^ 51 - floor_less v in
        let m = add binary64 v magic in
        let e : k + 3 * 2 ^ 51 - floor_less v ≡ 2 ^ 52 + d = omega arith in
        let h = whole-bits binary64 m d (add-fits binary64 v magic) (subst (λ (n : ℕ). HasValue m false n 1) e (val-has m (k + 3 * 2 ^ 51) (floor_less v) 1 (omega arith) s)) (omega arith) in
        omega arith

    back : Val (sub binary64 (add binary64 v magic) magic) k (floor_less v) 1
    back =
        let b = floor-in in
        let m = add binary64 v magic in
        val_same (sub binary64 m magic) _ _ 1 k (floor_less v) (omega arith)
        (rounds-whole binary64 (sub binary64 m magic) _ _ (omega arith) (omega arith) (sub_at binary64 m magic (k + 3 * 2 ^ 51) (floor_less v) 1 (3 * 2 ^ 51) 0 1 (zero-lt-suc 0) (zero-lt-suc 0) s (tt, refl)))

    -- one was rounded up exactly if that number lies above v
    up_is : (u : ℕ) → u ≡ cond (lt v (sub binary64 (add binary64 v magic) magic)) 1 0 → floor_plus v + u ≡ k
    up_is u e = go (lt v n) e (λ h. lt→vals v n (plus v) (less v) (den v) k (floor_less v) 1 (den_pos v) (zero-lt-suc 0) (own_val v fine) back h)
        (λ h. le→vals n v k (floor_less v) 1 (plus v) (less v) (den v) (zero-lt-suc 0) (den_pos v) back (own_val v fine) (not-lt→le v n (finite_number v fine) (finite_number n back.0) h))
      where
        n : Float
        n = sub binary64 (add binary64 v magic) magic

        go : (b : Bool) → u ≡ cond b 1 0 → (T b → plus v * 1 + floor_less v * den v < k * den v + less v * 1) → (T (not b) → k * den v + less v * 1 ≤ plus v * 1 + floor_less v * den v) → floor_plus v + u ≡ k
        go true e h g =
            let x = h tt in
            let under = floor-under v fine in
            let y : floor_plus v < k = lt_of_mul-lt-mul_right (den v) (omega arith) in
            omega arith
        go false e h g =
            let x = g tt in
            let next = floor-next v fine in
            let y : k < floor_plus v + 1 = lt_of_mul-lt-mul_right (den v) (omega arith) in
            omega arith

  pub step-fast : (u r : ℕ) → u ≡ cond (lt v (sub binary64 (add binary64 v magic) magic)) 1 0 → r < 2 ^ 32 → (r + u) % 2 ^ 32 ≡ to_bits binary64 (add binary64 v magic) % 2 ^ 32 → r ≡ stepped v
  step-fast u r e h g = go sum_moved
    where
      go : Moved → r ≡ stepped v
      go (moved k a b s) =
          let x = low-is k a b s in
          let y = up_is k a b s u e in
          stepped-own v r fine (in_size (2 ^ 63) (omega arith)) (record { small = h; same = taken-off r u _ (floor_less v) (floor_plus v) g (x ∙ ap (λ (n : ℕ). n % 2 ^ 32) (sym y)) })
