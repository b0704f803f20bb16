-- Shifting places out one at a time and rounding by the last: of what was shifted out before it counts only whether
-- it was nothing. Assumes nothing.
use mathlib.Core.Path.{◌≡◌, refl, sym, ap, ◌∙◌, subst}
use mathlib.Core.Logic.{◌⊎◌, inl, inr}
use Prim.Native.Nat.{ℕ, ◌+◌, ◌-◌, ◌*◌, ◌/◌, ◌%◌, ◌^◌, ◌<◌, compare, Ordering}
use native.Mathlib.Nat.{mul_comm, div-div-eq-div-mul, lt_irrefl}
use native.Mathlib.Omega.{arith}
use mathlib.Core.Bool.{Bool, true, false, cond}
use lib.Dec.{T, eqb, eqb→eq, eqb_refl}
use lib.Arith.{mod-mul}
use lib.Pow.{pow_pos, pow-add}
use lib.Ieee.{nearest}
use lib.Ieee.Nearest.{closest, closest_same}
use Rattle.ieee.proofs.Laws.Test.{Compared, compared}

-- ---- one order only
only : (o p : Ordering) (a b : ℕ) → Compared o a b → Compared p a b → o ≡ p
only Ordering.lt Ordering.lt a b h k = refl
only Ordering.eq Ordering.eq a b h k = refl
only Ordering.gt Ordering.gt a b h k = refl
only Ordering.lt Ordering.eq a b h k = absurd (lt_irrefl a (omega arith))
only Ordering.lt Ordering.gt a b h k = absurd (lt_irrefl a (omega arith))
only Ordering.eq Ordering.lt a b h k = absurd (lt_irrefl a (omega arith))
only Ordering.eq Ordering.gt a b h k = absurd (lt_irrefl a (omega arith))
only Ordering.gt Ordering.lt a b h k = absurd (lt_irrefl a (omega arith))
only Ordering.gt Ordering.eq a b h k = absurd (lt_irrefl a (omega arith))

-- ---- a place that is not the last
-- r * 4 and a t below 4, beside half a multiple of 8: every t but 0 is on the same side
same-side : (o : Ordering) (r g t u : ℕ) → 0 < t → t < 4 → 0 < u → u < 4 → Compared o ((r * 4 + t) * 2) (g * 2 * 4) → Compared o ((r * 4 + u) * 2) (g * 2 * 4)
same-side Ordering.lt r g t u a b c d h = omega arith
same-side Ordering.eq r g t u a b c d h =
    let x : (r * 4 + t) % 4 ≡ t = omega arith in
    let y : r * 4 + t ≡ g * 4 = omega arith in
    let z : t ≡ 0 = sym x ∙ ap (λ (n : ℕ). n % 4) y ∙ omega arith in
    absurd (lt_irrefl 0 (omega arith))
same-side Ordering.gt r g t u a b c d h = omega arith

quarter-div : (j h t : ℕ) → t < 4 → (j * 4 + t) / (h * 4) ≡ j / h
quarter-div j h t l =
    ap (λ (z : ℕ). (j * 4 + t) / z) (mul_comm h 4) ∙ sym (div-div-eq-div-mul (j * 4 + t) 4 h) ∙ ap (λ (z : ℕ). z / h) (omega arith)

quarter-mod : (j h t : ℕ) → 0 < h → t < 4 → (j * 4 + t) % (h * 4) ≡ j % h * 4 + t
quarter-mod j h t H l =
    let q : (j * 4 + t) / 4 ≡ j = omega arith in
    let r : (j * 4 + t) % 4 ≡ t = omega arith in
    mod-mul (j * 4 + t) H (omega arith) ∙ ap (λ (z : ℕ). z % h * 4 + (j * 4 + t) % 4) q ∙ ap (λ (z : ℕ). j % h * 4 + z) r

quarter-is : (j h t : ℕ) → 0 < h → t < 4 → closest (j * 4 + t) (h * 4) ≡ nearest (j / h) (compare ((j % h * 4 + t) * 2) (h * 4))
quarter-is j h t H l = rw (quarter-div j h t l, quarter-mod j h t H l)

-- so that of the two places below the last all ways to be lost round alike
sticky : (j g t u : ℕ) → 0 < g → 0 < t → t < 4 → 0 < u → u < 4 → closest (j * 4 + t) (g * 2 * 4) ≡ closest (j * 4 + u) (g * 2 * 4)
sticky j g t u G a b c d =
    let H : 0 < g * 2 = omega arith in
    let r = j % (g * 2) in
    let A = (r * 4 + t) * 2 in
    let B = (r * 4 + u) * 2 in
    let k = g * 2 * 4 in
    quarter-is j (g * 2) t H b
    ∙ ap (nearest (j / (g * 2))) (only (compare A k) (compare B k) B k (same-side (compare A k) r g t u a b c d (compared A k)) (compared B k))
    ∙ sym (quarter-is j (g * 2) u H d)

shed-odd : (i g : ℕ) → 0 < g → closest (i / 2 * 2 + 1) (g * 4) ≡ closest (i * 2 + 1) (g * 8)
shed-odd i g G =
    closest_same (i / 2 * 2 + 1) (g * 4) (i / 2 * 4 + 2) (g * 2 * 4) (omega arith) (omega arith) (omega arith)
    ∙ sticky (i / 2) g 2 (i % 2 * 2 + 1) G (omega arith) (omega arith) (omega arith) (omega arith)
    ∙ ap (λ (z : ℕ). closest z (g * 2 * 4)) (omega arith)
    ∙ ap (closest (i * 2 + 1)) (omega arith)

shed-lost : (i p : ℕ) → 0 < p → closest (i / 2 * 2 + 1) (2 ^ (p - 1 + 2)) ≡ closest (i * 2 + 1) (2 ^ (p + 2))
shed-lost i p h =
    let g = 2 ^ (p - 1) in
    ap (closest (i / 2 * 2 + 1)) (pow-add 2 (p - 1) 2) ∙ shed-odd i g (pow_pos (p - 1)) ∙ ap (closest (i * 2 + 1)) (sym (pow-add 2 (p - 1) 3) ∙ ap (λ (z : ℕ). 2 ^ z) (omega arith))

shed-clean : (i p : ℕ) → 0 < p → closest (i / 2 * 2 + cond (eqb (i % 2) 1) 1 0) (2 ^ (p - 1 + 2)) ≡ closest (i * 2 + 0) (2 ^ (p + 2))
shed-clean i p h =
    closest_same (i / 2 * 2 + cond (eqb (i % 2) 1) 1 0) (2 ^ (p - 1 + 2)) (i * 2 + 0) (2 ^ (p + 2)) (pow_pos (p - 1 + 2)) (pow_pos (p + 2))
    (rw (bit i, pow-add 2 (p - 1) 2, sym (ap (λ (z : ℕ). 2 ^ z) e) ∙ pow-add 2 (p - 1) 3) (omega arith))
  where
    e : p - 1 + 3 ≡ p + 2
    e = omega arith

    bit : (i : ℕ) → i / 2 * 2 + cond (eqb (i % 2) 1) 1 0 ≡ i
    bit i = go (eqb (i % 2) 1) (eqb→eq (i % 2) 1) (λ (q : i % 2 ≡ 1). subst (λ (z : ℕ). T (eqb (i % 2) z)) q (eqb_refl (i % 2)))
      where
        go : (b : Bool) → (T b → i % 2 ≡ 1) → (i % 2 ≡ 1 → T b) → i / 2 * 2 + cond b 1 0 ≡ i
        go true t f = let q = t tt in omega arith
        go false t f = let q : i % 2 ≡ 1 → ⊥ = f in omega arith

-- one place more: something is lost if it was before, or if this place is a one
pub shed : (i : ℕ) (lost more : Bool) (p : ℕ) → 0 < p → ((lost ≡ true) × (more ≡ true)) ⊎ ((lost ≡ false) × (more ≡ eqb (i % 2) 1))
    → closest (i / 2 * 2 + cond more 1 0) (2 ^ (p - 1 + 2)) ≡ closest (i * 2 + cond lost 1 0) (2 ^ (p + 2))
shed i lost more p h (inl w) = rw (w.0, w.1) (shed-lost i p h)
shed i lost more p h (inr w) = rw (w.0, w.1) (shed-clean i p h)
