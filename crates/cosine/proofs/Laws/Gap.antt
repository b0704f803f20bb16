-- Another value that the format holds lies at least a last place away: if x is a whole number of 1 / 2^k, and more
-- than 2^(prec - 1) of them in size, every other value of the format is at least 1 / 2^k above or below it.
-- Assumes nothing.
use mathlib.Core.Path.{◌≡◌, refl, sym, ap, ◌∙◌, subst}
use mathlib.Core.Logic.{◌⊎◌, inl, inr}
use mathlib.Core.Bool.{true, false}
use Prim.Native.Nat.{ℕ, zero, suc, ◌+◌, ◌-◌, ◌*◌, ◌^◌, ◌≤◌, ◌<◌}
use native.Mathlib.Nat.{lt_irrefl, mul_assoc, mul-le-mul_right, mul-lt-mul_of_pos_right, lt_of_mul-lt-mul_right, pow-succ'}
use native.Mathlib.Omega.{arith}
use lib.IntN.{pos, negsuc}
use lib.Dec.{T}
use lib.Pow.{pow-add, pow_pos, pow_mono}
use lib.Ieee.{Float, nan, inf, fin, Format, binary32, binary64, prec, hid, lt, fits}
use lib.Ieee.Scale.{finite}
use lib.Ieee.Positive.{den, den_pos}
use Rattle.ieee.specs.Fraction.{plus, less, Val}
use Rattle.ieee.proofs.Laws.Test.{order}
use Rattle.ieee.proofs.Laws.Order.{products, one-part, lt→cross}
use Rattle.ieee.proofs.Laws.Held.{fits-parts, pow-back, pow_below}

-- ---- a value of the format is a whole number of 1 / 2^k, or less than 2^(prec - 1) of them
data Placed (f : Format) (x : Float) (k : ℕ) : Type 0 where
  grid : (p n : ℕ) → Val x p n (2 ^ k) → Placed f x k
  small : (plus x + less x) * 2 ^ k < hid f * den x → Placed f x k

-- m / 2^i is m 2^(k - i) / 2^k
finer : (m i k : ℕ) → i ≤ k → m * 2 ^ k ≡ m * 2 ^ (k - i) * 2 ^ i
finer m i k h = ap (λ (z : ℕ). m * 2 ^ z) back ∙ ap (λ (z : ℕ). m * z) (pow-add 2 (k - i) i) ∙ sym (mul_assoc m (2 ^ (k - i)) (2 ^ i))
  where
    back : k ≡ k - i + i
    back = omega arith

as_parts : (x : Float) (k : ℕ) → T (finite x) → den x ≤ 2 ^ k → (p : ℕ) × (n : ℕ) × Val x p n (2 ^ k)
as_parts nan k t h = absurd t
as_parts (inf s) k t h = absurd t
as_parts (fin false m (pos i)) k t h = (m * 2 ^ i * 2 ^ k, 0, (tt, omega arith))
as_parts (fin true m (pos i)) k t h = (0, m * 2 ^ i * 2 ^ k, (tt, omega arith))
as_parts (fin false m (negsuc i)) k t h = let e = finer m (suc i) k (pow-back (suc i) k h) in (m * 2 ^ (k - suc i), 0, (tt, omega arith))
as_parts (fin true m (negsuc i)) k t h = let e = finer m (suc i) k (pow-back (suc i) k h) in (0, m * 2 ^ (k - suc i), (tt, omega arith))

-- where 2^k < 2^(i + 1), m / 2^(i + 1) has fewer than 2^(prec - 1) of 1 / 2^k, since m has at most prec digits
tiny : (f : Format) (m i k : ℕ) → m < 2 ^ prec f → 2 ^ k < 2 ^ suc i → m * 2 ^ k < hid f * 2 ^ suc i
tiny f m i k a h = go (2 ^ k) (2 ^ suc i) (hid f) (twice f) (pow_pos k) (subst (λ (z : ℕ). z ≤ 2 ^ suc i) (pow-succ' 2 k) (pow_mono exponents))
  where
    twice : (f : Format) → 2 ^ prec f ≡ 2 * hid f
    twice binary32 = refl
    twice binary64 = refl

    exponents : suc k ≤ suc i
    exponents = pow_below k (suc i) h

    go : (K I w : ℕ) → 2 ^ prec f ≡ 2 * w → 0 < K → 2 * K ≤ I → m * K < w * I
    go K I w e p g =
        let x : m * K < 2 * w * K = mul-lt-mul_of_pos_right (subst (λ (z : ℕ). m < z) e a) p in
        let y = mul-le-mul_right w g in
        omega arith

placed : (f : Format) (x : Float) (k : ℕ) → T (finite x) → T (fits f x) → Placed f x k
placed f x k t h = elim (order (2 ^ k) (den x)) [ inl a ↦ small (lies x t h a) | inr a ↦ let g = as_parts x k t a in grid g.0 g.1 g.2 ]
  where
    lies : (x : Float) → T (finite x) → T (fits f x) → 2 ^ k < den x → (plus x + less x) * 2 ^ k < hid f * den x
    lies nan t h a = absurd t
    lies (inf s) t h a = absurd t
    lies (fin s m (pos i)) t h a = absurd (lt_irrefl 0 (let p = pow_pos k in omega arith))
    lies (fin false m (negsuc i)) t h a = let g = tiny f m i k (fits-parts f false m (negsuc i) h).0 a in omega arith
    lies (fin true m (negsuc i)) t h a = let g = tiny f m i k (fits-parts f true m (negsuc i) h).0 a in omega arith

-- ---- x = (P - N) / D and z = (Q - O) / E, with x < z: then x + 1 / K ≤ z
-- two whole numbers of 1 / K
grids : (P N D Q O E K p n q r : ℕ) → 0 < K → P * K + n * D ≡ p * D + N * K → Q * K + r * E ≡ q * E + O * K
    → P * E + O * D < Q * D + N * E → K * (P * E + O * D) + D * E ≤ K * (Q * D + N * E)
grids P N D Q O E K p n q r K⁺ a b l =
    let W = D * E in
    let x = simp products at (ap (λ (z : ℕ). z * E) a) in
    let y = simp products at (ap (λ (z : ℕ). z * D) b) in
    let g = simp products at (mul-lt-mul_of_pos_right l K⁺) in
    let u : (p + r) * W < (q + n) * W = simp products (omega arith) in
    let v = simp products at (mul-le-mul_right W (lt_of_mul-lt-mul_right W u)) in
    simp products (omega arith)

-- z is smaller than w of 1 / K, and x = P / D larger: x is not below z
not-above : (P D Q O E K w : ℕ) → 0 < D → 0 < E → 0 < K → w * D < P * K → (Q + O) * K < w * E → ¬ (P * E + O * D < Q * D)
not-above P D Q O E K w D⁺ E⁺ K⁺ h s l =
    let x = simp products at (mul-lt-mul_of_pos_right h E⁺) in
    let y = simp products at (mul-lt-mul_of_pos_right s D⁺) in
    let z = simp products at (mul-lt-mul_of_pos_right l K⁺) in
    lt_irrefl 0 (omega arith)

-- and x = -N / D larger: it is a whole number of 1 / K, so N / D is w + 1 of them at least
far-below : (N D Q O E K p n w : ℕ) → 0 < D → n * D ≡ p * D + N * K → w * D < N * K → (Q + O) * K < w * E → K * (O * D) + D * E ≤ K * (Q * D + N * E)
far-below N D Q O E K p n w D⁺ a h s =
    let u : (p + w) * D < n * D = simp products (let a' = simp products at a in let h' = simp products at h in omega arith) in
    let v = simp products at (mul-le-mul_right (D * E) (lt_of_mul-lt-mul_right D u)) in
    let x = simp products at (ap (λ (z : ℕ). z * E) a) in
    let y = simp products at (mul-lt-mul_of_pos_right s D⁺) in
    simp products (omega arith)

-- either way, where x has one sign
beyond : (P N D Q O E K p n w : ℕ) → 0 < D → 0 < E → 0 < K → (P ≡ 0) ⊎ (N ≡ 0) → P * K + n * D ≡ p * D + N * K → w * D < (P + N) * K → (Q + O) * K < w * E
    → P * E + O * D < Q * D + N * E → K * (P * E + O * D) + D * E ≤ K * (Q * D + N * E)
beyond P zero D Q O E K p n w D⁺ E⁺ K⁺ (inr e) a h s l = absurd (not-above P D Q O E K w D⁺ E⁺ K⁺ (omega arith) s (omega arith))
beyond P (suc N) D Q O E K p n w D⁺ E⁺ K⁺ (inr e) a h s l = absurd (lt_irrefl 0 (omega arith))
beyond zero N D Q O E K p n w D⁺ E⁺ K⁺ (inl e) a h s l = let g = far-below N D Q O E K p n w D⁺ (omega arith) (omega arith) s in omega arith
beyond (suc P) N D Q O E K p n w D⁺ E⁺ K⁺ (inl e) a h s l = absurd (lt_irrefl 0 (omega arith))

-- ---- another value of the format: x + 1 / 2^k ≤ z where z is above x
pub gap-above : (f : Format) (x z : Float) (k : ℕ) → T (finite x) → T (finite z) → T (fits f z) → den x ≤ 2 ^ k → hid f * den x < (plus x + less x) * 2 ^ k → T (lt x z)
    → 2 ^ k * (plus x * den z + less z * den x) + den x * den z ≤ 2 ^ k * (plus z * den x + less x * den z)
gap-above f x z k t u h d b l =
    let g = as_parts x k t d in
    let c = lt→cross x z t u l in
    elim (placed f z k u h) [
      | grid q r v ↦ grids (plus x) (less x) (den x) (plus z) (less z) (den z) (2 ^ k) g.0 g.1 q r (pow_pos k) g.2.1 v.1 c
      | small s ↦ beyond (plus x) (less x) (den x) (plus z) (less z) (den z) (2 ^ k) g.0 g.1 (hid f) (den_pos x) (den_pos z) (pow_pos k) (one-part x) g.2.1 b s c
    ]

-- and z + 1 / 2^k ≤ x where z is below: the same law of -x and -z
pub gap_below : (f : Format) (x z : Float) (k : ℕ) → T (finite x) → T (finite z) → T (fits f z) → den x ≤ 2 ^ k → hid f * den x < (plus x + less x) * 2 ^ k → T (lt z x)
    → 2 ^ k * (plus z * den x + less x * den z) + den z * den x ≤ 2 ^ k * (plus x * den z + less z * den x)
gap_below f x z k t u h d b l =
    let g = as_parts x k t d in
    let c = lt→cross z x u t l in
    let o : (less x ≡ 0) ⊎ (plus x ≡ 0) = elim (one-part x) [ inl e ↦ inr e | inr e ↦ inl e ] in
    let w : 2 ^ k * (less x * den z + plus z * den x) + den x * den z ≤ 2 ^ k * (less z * den x + plus x * den z) =
    elim (placed f z k u h) [
      | grid q r v ↦ grids (less x) (plus x) (den x) (less z) (plus z) (den z) (2 ^ k) g.1 g.0 r q (pow_pos k) (omega arith) (omega arith) (omega arith)
      | small s ↦ beyond (less x) (plus x) (den x) (less z) (plus z) (den z) (2 ^ k) g.1 g.0 (hid f) (den_pos x) (den_pos z) (pow_pos k) o (omega arith) (omega arith) (omega arith) (omega arith)
    ] in
    omega arith
