-- Monotone rounding for all signs: a sum grows with each term, a product with a factor if the other is not negative.
-- Assumes nothing.
use mathlib.Core.Path.{◌≡◌, refl}
use Prim.Native.Nat.{ℕ, ◌+◌, ◌*◌, ◌≤◌}
use native.Mathlib.Nat.{zero-lt-suc, zero-mul, mul-zero, add-zero, mul_comm, mul_assoc, mul_left_comm, mul-le-mul, mul-le-mul_right, mul-pos}
use native.Mathlib.Omega.{arith}
use lib.Dec.{T}
use lib.Ieee.{Float, Format, add, sub, mul, div, neg, le, lt, fits}
use lib.Ieee.Scale.{finite}
use lib.Ieee.Positive.{den, den_pos}
use Rattle.ieee.specs.Notation.{zero₀}
use Rattle.ieee.specs.Fraction.{plus, less}
use Rattle.ieee.proofs.Laws.Algebra.{mul-swap, sub_is}
use Rattle.ieee.proofs.Laws.Order.{products, less_none, plus-some, le→cross, le-trans-float, neg-le, neg-finite}
use Rattle.ieee.proofs.Laws.Rounds.{rounds-mono, add_rounds, mul-rounds, div-rounds}
use Rattle.ieee.proofs.Laws.Held.{rounds-above}

-- ---- the operations keep the order; a result may overflow to an infinity
sum-grows : (P N d P' N' d' Q O b Q' O' b' : ℕ) → P * d' + N' * d ≤ P' * d + N * d' → Q * b' + O' * b ≤ Q' * b + O * b'
    → (P * b + Q * d) * (d' * b') + (N' * b' + O' * d') * (d * b) ≤ (P' * b' + Q' * d') * (d * b) + (N * b + O * d) * (d' * b')
sum-grows P N d P' N' d' Q O b Q' O' b' h k =
    let x = simp products at (mul-le-mul_right (b * b') h) in
    let y = simp products at (mul-le-mul_right (d * d') k) in
    simp products (omega arith)

pub add-mono : (f : Format) (x x' y y' : Float) → T (finite x) → T (finite x') → T (finite y) → T (finite y') → T (le x x') → T (le y y') → T (le (add f x y) (add f x' y'))
add-mono f x x' y y' p p' q q' h k =
    rounds-mono f (add f x y) (add f x' y') _ _ _ _ _ _ (mul-pos (den_pos x) (den_pos y)) (mul-pos (den_pos x') (den_pos y')) (add_rounds f x y p q) (add_rounds f x' y' p' q')
    (sum-grows (plus x) (less x) (den x) (plus x') (less x') (den x') (plus y) (less y) (den y) (plus y') (less y') (den y') (le→cross x x' p p' h) (le→cross y y' q q' k))

-- a difference grows with the first term and falls with the second
pub sub-mono : (f : Format) (x x' y y' : Float) → T (finite x) → T (finite x') → T (finite y) → T (finite y') → T (le x x') → T (le y' y) → T (le (sub f x y) (sub f x' y'))
sub-mono f x x' y y' p p' q q' h k = rw (sub_is f x y, sub_is f x' y') (add-mono f x x' (neg y) (neg y') p p' (neg-finite y q) (neg-finite y' q') h (neg-le y' y k))

product-grows : (P N d P' N' d' Q O b : ℕ) → O ≡ 0 → P * d' + N' * d ≤ P' * d + N * d'
    → (P * Q + N * O) * (d' * b) + (P' * O + N' * Q) * (d * b) ≤ (P' * Q + N' * O) * (d * b) + (P * O + N * Q) * (d' * b)
product-grows P N d P' N' d' Q O b o h =
    let g = simp products at (mul-le-mul_right (Q * b) h) in
    simp (o, mul-zero, add-zero, products) (omega arith)

-- a product grows with a factor of either sign, if the other is not negative
pub mul-mono-left : (f : Format) (x x' y : Float) → T (finite x) → T (finite x') → T (finite y) → T (le zero₀ y) → T (le x x') → T (le (mul f x y) (mul f x' y))
mul-mono-left f x x' y p p' q u h =
    rounds-mono f (mul f x y) (mul f x' y) _ _ _ _ _ _ (mul-pos (den_pos x) (den_pos y)) (mul-pos (den_pos x') (den_pos y)) (mul-rounds f x y p q) (mul-rounds f x' y p' q)
    (product-grows (plus x) (less x) (den x) (plus x') (less x') (den x') (plus y) (less y) (den y) (less_none y q u) (le→cross x x' p p' h))

-- and with both, if the smaller of the one and the greater of the other are not negative
pub mul_mono : (f : Format) (x x' y y' : Float) → T (finite x) → T (finite x') → T (finite y) → T (finite y') → T (le zero₀ x') → T (le zero₀ y) → T (le x x') → T (le y y') → T (le (mul f x y) (mul f x' y'))
mul_mono f x x' y y' p p' q q' z u h k =
    le-trans-float (mul f x y) (mul f x' y) (mul f x' y') (mul-mono-left f x x' y p p' q u h)
    (rw (mul-swap f x' y, mul-swap f x' y') (mul-mono-left f y y' x' q q' p' z k))

-- a product of values from 0 up is one
pub mul-nonneg : (f : Format) (x y : Float) → T (finite x) → T (finite y) → T (le zero₀ x) → T (le zero₀ y) → T (le zero₀ (mul f x y))
mul-nonneg f x y p q h k =
    let n = less_none x p h in
    let o = less_none y q k in
    rounds-above f zero₀ (mul f x y) 0 0 1 _ _ _ (unfold fits in tt) (tt, refl) (zero-lt-suc 0) (mul-pos (den_pos x) (den_pos y)) (mul-rounds f x y p q) (simp (n, o, mul-zero, zero-mul, add-zero) (omega arith))

quotient-grows : (P N d P' N' d' Q O b Q' O' b' : ℕ) → N ≡ 0 → N' ≡ 0 → O ≡ 0 → O' ≡ 0 → P * d' + N' * d ≤ P' * d + N * d' → Q' * b + O * b' ≤ Q * b' + O' * b
    → P * b * (Q' * d') + N' * b' * (Q * d) ≤ P' * b' * (Q * d) + N * b * (Q' * d')
quotient-grows P N d P' N' d' Q O b Q' O' b' n n' o o' h k =
    let g = simp (mul_assoc, mul_comm) at (mul-le-mul (flat P N d P' N' d' n n' h) (flat Q' O' b' Q O b o' o k)) in
    simp (n, n', zero-mul, add-zero, mul_assoc, mul_comm, mul_left_comm) (omega arith)
  where
    flat : (P N d P' N' d' : ℕ) → N ≡ 0 → N' ≡ 0 → P * d' + N' * d ≤ P' * d + N * d' → P * d' ≤ P' * d
    flat P N d P' N' d' n n' h = let g = simp (n, n', zero-mul, add-zero) at h in omega arith

-- a quotient of values from 0 up grows with the dividend and falls with the divisor
pub div_mono : (f : Format) (x x' y y' : Float) → T (finite x) → T (finite x') → T (finite y) → T (finite y') → T (le zero₀ x) → T (le zero₀ x') → T (lt zero₀ y) → T (lt zero₀ y') → T (le x x') → T (le y' y) → T (le (div f x y) (div f x' y'))
div_mono f x x' y y' p p' q q' z z' u u' h k =
    let a = plus-some y q u in
    let a' = plus-some y' q' u' in
    rounds-mono f (div f x y) (div f x' y') _ _ _ _ _ _ (mul-pos a.0 (den_pos x)) (mul-pos a'.0 (den_pos x')) (div-rounds f x y p q a.0) (div-rounds f x' y' p' q' a'.0)
    (quotient-grows (plus x) (less x) (den x) (plus x') (less x') (den x') (plus y) (less y) (den y) (plus y') (less y') (den y') (less_none x p z) (less_none x' p' z') a.1 a'.1 (le→cross x x' p p' h) (le→cross y' y q' q k))
