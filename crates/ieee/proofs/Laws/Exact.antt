-- Where nothing is lost: a fraction that the format holds is its own rounding, and so is the half of a value
-- that is not too small, and 1 × x. Assumes nothing.
use mathlib.Core.Path.{◌≡◌, refl, sym, ap, ◌∙◌, subst}
use mathlib.Core.Logic.{◌⊎◌, inl, inr}
use Prim.Native.Nat.{ℕ, zero, suc, ◌+◌, ◌-◌, ◌*◌, ◌^◌, ◌≤◌, ◌<◌}
use native.Mathlib.Nat.{sub-zero, zero-mul, eq_of_mul-eq-mul_right, zero-lt-suc, add-mul, mul-one, one-mul, mul-zero, mul-suc, add-zero, zero-add, mul_assoc, mul_right_comm, mul-pos, pow-suc, mul-lt-mul_of_pos_right, lt_of_mul-lt-mul_right, lt_of_lt_of_le, le_trans, le_of_eq}
use native.Mathlib.Omega.{arith}
use mathlib.Core.Bool.{Bool, true, false, not-not}
use lib.IntN.{ℤ, pos, negsuc}
use lib.Dec.{T, ltb, ltb→lt, not_T}
use lib.Pow.{pow-add, pow_pos, pow_mono, shl_lt}
use lib.Ieee.{Float, nan, inf, fin, Format, prec, emax, low, up, down, round, sum, sub, mul, fits}
use lib.Ieee.Fits.{reach, down_pos, round-fits}
use lib.Ieee.Back.{round_whole}
use lib.Ieee.Exact.{HasValue, round_exact}
use lib.Ieee.Bits.{is_false}
use lib.Ieee.Scale.{finite, round_same}
use lib.Ieee.Positive.{den, den_pos}
use Rattle.ieee.specs.Notation.{zero₀, half₀, one₀}
use Rattle.ieee.specs.Alike.{Alike}
use Rattle.ieee.specs.Fraction.{plus, less, Val, Exact}
use Rattle.ieee.specs.Rounding.{Rounds, high, deep}
use Rattle.ieee.proofs.Laws.Round.{round-zero}
use Rattle.ieee.proofs.Laws.Like.{add-fin, mul-fin}
use Rattle.ieee.proofs.Laws.Test.{order}
use Rattle.ieee.proofs.Laws.Order.{has-val, val_same, one-part, between}
use Rattle.ieee.proofs.Laws.Rounds.{rounds-same, mul-rounds}
use Rattle.ieee.proofs.Laws.Held.{fits-parts, on-grid, rounds-above, rounds-below}
use Rattle.ieee.proofs.Laws.Unique.{le-both, value-unique}

-- ---- a result that the format holds is not rounded
rounds-fits : (f : Format) (z : Float) (p n c : ℕ) → Rounds f z p n c → T (fits f z)
rounds-fits f z p n c (high a e) = rw e (round-fits f false (p - n) c)
rounds-fits f z p n c (deep a e) = rw e (round-fits f true (n - p) c)

-- y has the value (p - n) / c, and z is that value rounded once
pub rounds-held : (f : Format) (y z : Float) (p n c : ℕ) → 0 < c → T (fits f y) → Val y p n c → Rounds f z p n c → Alike z y
rounds-held f y z p n c C t v r =
    let lo = rounds-above f y z p n c p n c t v C C r (le_of_eq refl) in
    let hi = rounds-below f y z p n c p n c t v C C r (le_of_eq refl) in
    le-both f z y (rounds-fits f z p n c r) t (between y z y v.0 v.0 lo hi) v.0 hi lo

pub rounds-exact : (f : Format) (z : Float) (p n c : ℕ) → (n ≤ p → Exact f (p - n) c) → (p ≤ n → Exact f (n - p) c) → Rounds f z p n c → Val z p n c
rounds-exact f z p n c g h (high a e) = rw e (let v = has-val (round f false (p - n) c) false (p - n) c (g a false) in (v.0, over p n c _ _ _ a v.1))
  where
    over : (p n c P N d : ℕ) → n ≤ p → P * c + 0 * d ≡ (p - n) * d + N * c → P * c + n * d ≡ p * d + N * c
    over p n c P N d a e =
        let x : (p - n) * d + n * d ≡ p * d = sym (add-mul (p - n) n d) ∙ ap (λ (z : ℕ). z * d) (omega arith) in
        omega arith
rounds-exact f z p n c g h (deep a e) = rw e (let v = has-val (round f true (n - p) c) true (n - p) c (h a true) in (v.0, over p n c _ _ _ a v.1))
  where
    over : (p n c P N d : ℕ) → p ≤ n → P * c + (n - p) * d ≡ 0 * d + N * c → P * c + n * d ≡ p * d + N * c
    over p n c P N d a e =
        let x : (n - p) * d + p * d ≡ n * d = sym (add-mul (n - p) p d) ∙ ap (λ (z : ℕ). z * d) (omega arith) in
        omega arith

-- where one of p and n is 0, as in a float's own fraction, there is one magnitude to look at
pub rounds-one-sided : (f : Format) (z : Float) (p n c : ℕ) → (p ≡ 0) ⊎ (n ≡ 0) → Exact f (p + n) c → Rounds f z p n c → Val z p n c
rounds-one-sided f z p n c e g r = rounds-exact f z p n c (λ h. subst (λ (w : ℕ). Exact f w c) (over e h) g) (λ h. subst (λ (w : ℕ). Exact f w c) (under e h) g) r
  where
    over : (p ≡ 0) ⊎ (n ≡ 0) → n ≤ p → p + n ≡ p - n
    over (inl e) h = omega arith
    over (inr e) h = omega arith

    under : (p ≡ 0) ⊎ (n ≡ 0) → p ≤ n → p + n ≡ n - p
    under (inl e) h = omega arith
    under (inr e) h = omega arith

-- ---- which fractions are
-- zero
pub zero-exact : (f : Format) (c : ℕ) → 0 < c → Exact f 0 c
zero-exact f c C s = rw (round-zero f s c C) (refl, omega arith)

-- a whole number of at most prec digits
pub whole-exact : (f : Format) (n : ℕ) → n ≤ 2 ^ prec f → Exact f n 1
whole-exact f n h s = round_whole f s n h

-- such a number of parts of 2 ^ -l
pub parts-exact : (f : Format) (n l : ℕ) → n < 2 ^ prec f → l ≤ low f → Exact f n (2 ^ l)
parts-exact f n l h L s =
    let j = low f - l in
    let J : j + l ≡ low f = omega arith in
    round_exact f s n (2 ^ l) n j (pow_pos l) h
    (lt_of_lt_of_le (shl_lt (prec f) j h) (pow_mono (let r = reach f in omega arith)))
    (ap (λ (z : ℕ). n * 2 ^ z) (sym J) ∙ ap (λ (z : ℕ). n * z) (pow-add 2 j l) ∙ sym (mul_assoc n (2 ^ j) (2 ^ l)))

pub rounds-whole : (f : Format) (z : Float) (p n : ℕ) → p ≤ n + 2 ^ prec f → n ≤ p + 2 ^ prec f → Rounds f z p n 1 → Val z p n 1
rounds-whole f z p n h k r = rounds-exact f z p n 1 (λ l. whole-exact f (p - n) (omega arith)) (λ l. whole-exact f (n - p) (omega arith)) r

-- such a number as a float
pub whole-held : (f : Format) (a b : ℕ) → a ≤ b + 2 ^ prec f → b ≤ a + 2 ^ prec f → (y : Float) × T (fits f y) × Val y a b 1
whole-held f a b h k = elim (order a b) [
  | inl l ↦ let r = b - a in let y = round f true r 1 in (y, round-fits f true r 1, val_same y 0 r 1 a b (omega arith) (has-val y true r 1 (round_whole f true r (omega arith))))
  | inr l ↦ let r = a - b in let y = round f false r 1 in (y, round-fits f false r 1, val_same y r 0 1 a b (omega arith) (has-val y false r 1 (round_whole f false r (omega arith))))
]

pub same-value : (x : Float) (s : Bool) (a c b d : ℕ) → 0 < c → a * d ≡ b * c → HasValue x s a c → HasValue x s b d
same-value nan s a c b d C h v = absurd v
same-value (inf t) s a c b d C h v = absurd v
same-value (fin t m e) s a c b d C h v = (v.0, eq_of_mul-eq-mul_right c C (m * up e * d) (b * down e) (cross (m * up e) (down e) v.1))
  where
    cross : (u w : ℕ) → u * c ≡ a * w → u * d * c ≡ b * w * c
    cross u w g = mul_right_comm u d c ∙ ap (λ (z : ℕ). z * d) g ∙ mul_right_comm a w d ∙ ap (λ (z : ℕ). z * w) h ∙ mul_right_comm b c w

-- another fraction of the same value
exact_same : (f : Format) (a c b d : ℕ) → 0 < c → 0 < d → a * d ≡ b * c → Exact f a c → Exact f b d
exact_same f a c b d C D h g s = same-value (round f s b d) s a c b d C h (subst (λ (x : Float). HasValue x s a c) (round_same f s a c b d C D h) (g s))

-- ---- a value that the format holds is its own rounding, as data
pub round-own : (f : Format) (s : Bool) (m : ℕ) (e : ℤ) → T (fits f (fin s m e)) → round f s (m * up e) (down e) ≡ fin s m e
round-own f s m e t =
    let k = fits-parts f s m e t in
    value-unique f (round f s (m * up e) (down e)) (fin s m e) s (m * up e) (down e) (m * up e) (down e) (down_pos e) (down_pos e)
    (round-fits f s (m * up e) (down e)) t (on-grid f s m e k.0 k.1 k.2) (refl, refl) refl

-- a whole number n times 2 ^ -(k + 1) is the fraction n / 2 ^ (k + 1), rounded once
pub whole_scaled : (f : Format) (v : Float) (n k : ℕ) → HasValue v false n 1 → mul f v (fin false 1 (negsuc k)) ≡ round f false n (2 ^ suc k)
whole_scaled f (fin true m e) n k h = absurd (subst T h.0 tt)
whole_scaled f (fin false m e) n k h =
    let w = 2 ^ suc k in
    mul-fin f false false m 1 e (negsuc k)
    ∙ round_same f false (m * up e * (1 * 1)) (down e * w) n w (mul-pos (down_pos e) (pow_pos (suc k))) (pow_pos (suc k)) (ap (λ (z : ℕ). z * w) h.1 ∙ mul_assoc n (down e) w)
whole_scaled f nan n k h = elim h [ ]
whole_scaled f (inf _) n k h = elim h [ ]

none-off : (f : Format) (s : Bool) (a c : ℕ) → sum f s a true 0 c ≡ round f s a c
unfolding sum
none-off f true a c = rw (add-zero a)
none-off f false a c = rw (sub-zero a, is_false (ltb a 0) (not_T (ltb a 0) (λ t. omega (arith, ltb→lt a 0 t))))

-- x - 0 is x, a zero with its sign included
pub minus-zero : (f : Format) (x : Float) → T (fits f x) → sub f x zero₀ ≡ x
minus-zero f nan t = unfold sub in refl
minus-zero f (inf s) t = unfold sub in refl
minus-zero f (fin s m e) t = unfold sub in rw (add-fin f s true m 0 e (pos 0), zero-mul (down e), mul-one (m * up e), mul-one (down e)) (none-off f s (m * up e) (down e) ∙ round-own f s m e t)

-- 1 × x is x
pub one-times : (f : Format) (x : Float) → T (fits f x) → mul f one₀ x ≡ x
one-times f nan t = unfold mul in refl
one-times f (inf true) t = unfold mul in refl
one-times f (inf false) t = unfold mul in refl
one-times f (fin s m e) t = rw (mul-fin f false s 1 m (pos 0) e, not-not s, one-mul (m * up e), one-mul (down e)) (round-own f s m e t)

-- 0 - x, for a whole number x = -n, is n, with no minus sign at 0
pub zero_minus : (f : Format) (x : Float) (n : ℕ) → Val x 0 n 1 → sub f zero₀ x ≡ round f false n 1
unfolding sub
zero_minus f nan n v = absurd v.0
zero_minus f (inf s) n v = absurd v.0
zero_minus f (fin true m e) n v =
    rw (add-fin f false false 0 m (pos 0) e) (unfold sum in round_same f false _ _ n 1 (mul-pos (zero-lt-suc 0) (down_pos e)) (zero-lt-suc 0) (let k = v.1 in omega arith))
zero_minus f (fin false m e) n v =
    let d = down_pos e in
    let z : m * up e * 1 ≡ 0 = let k = v.1 in omega arith in
    rw (add-fin f false true 0 m (pos 0) e, z) (none-off f false _ _ ∙ round_same f false (0 * 1 * down e) (1 * down e) n 1 (mul-pos (zero-lt-suc 0) d) (zero-lt-suc 0) (let k = v.1 in omega arith))

-- ---- the half of m * 2 ^ e
lower : ℤ → ℤ
lower (pos zero) = negsuc zero
lower (pos (suc k)) = pos k
lower (negsuc k) = negsuc (suc k)

lower-half : (e : ℤ) → up (lower e) * (down e * 2) ≡ up e * down (lower e)
unfolding lower
lower-half (pos zero) = refl
lower-half (pos (suc k)) = sym (pow-suc 2 k) ∙ sym (mul-one (2 ^ suc k))
lower-half (negsuc k) = ap (λ (z : ℕ). 1 * z) (sym (pow-suc 2 (suc k)))

lower-down : (f : Format) (e : ℤ) → down e * 2 ≤ 2 ^ low f → down (lower e) ≤ 2 ^ low f
unfolding lower
lower-down f (pos zero) h = h
lower-down f (pos (suc k)) h = omega arith
lower-down f (negsuc k) h = le_trans (le_of_eq (pow-suc 2 (suc k))) h

-- A / L is a half of B / D, and stays below E
under : (A L B D E k : ℕ) → 0 < D → 0 < L → A * (D * k) ≡ B * L → B < E * D → 0 < k → A < E * L
under A L B D E k P Q h g K =
    let x : B * L < E * D * L = mul-lt-mul_of_pos_right g Q in
    let y : E * D * L ≡ E * L * D = mul_right_comm E D L in
    let z : A * D ≤ A * (D * k) = widen A D k K in
    lt_of_mul-lt-mul_right D (omega arith)
  where
    widen : (A D k : ℕ) → 0 < k → A * D ≤ A * (D * k)
    widen A D (suc k) K = let e : A * (D * suc k) ≡ A * D * k + A * D = sym (mul_assoc A D (suc k)) ∙ mul-suc (A * D) k in omega arith
    widen A D zero K = elim K [ ]

half-grid : (f : Format) (s : Bool) (m : ℕ) (e : ℤ) → T (fits f (fin s m e)) → down e * 2 ≤ 2 ^ low f → Exact f (m * up e) (down e * 2)
half-grid f s m e t h =
    let k = fits-parts f s m e t in
    let g : m * up (lower e) * (down e * 2) ≡ m * up e * down (lower e) = mul_assoc m (up (lower e)) (down e * 2) ∙ ap (λ (z : ℕ). m * z) (lower-half e) ∙ sym (mul_assoc m (up e) (down (lower e))) in
    exact_same f (m * up (lower e)) (down (lower e)) (m * up e) (down e * 2) (down_pos (lower e)) (mul-pos (down_pos e) (zero-lt-suc 1)) g
    (λ u. on-grid f u m (lower e) k.0 (lower-down f e h) (under (m * up (lower e)) (down (lower e)) (m * up e) (down e) (2 ^ suc (emax f)) 2 (down_pos e) (down_pos (lower e)) g k.2 (zero-lt-suc 1)))

half-rounds : (f : Format) (x : Float) → T (finite x) → Rounds f (mul f x half₀) (plus x) (less x) (den x * 2)
half-rounds f x p =
    let C = mul-pos (den_pos x) (zero-lt-suc 1) in
    rounds-same f (mul f x half₀) _ _ _ (plus x) (less x) (den x * 2) C C (flat (plus x) (less x) (den x * 2)) (mul-rounds f x half₀ p tt)
  where
    flat : (P N c : ℕ) → (P * 1 + N * 0) * c + N * c ≡ P * c + (P * 0 + N * 1) * c
    flat P N c = simp (mul-one, mul-zero, add-zero, zero-add)

-- x / 2 is exact where the format's grid goes one place lower
pub half-exact : (f : Format) (x : Float) → T (finite x) → T (fits f x) → den x * 2 ≤ 2 ^ low f → Val (mul f x half₀) (plus x) (less x) (den x * 2)
half-exact f x p t h = rounds-one-sided f (mul f x half₀) (plus x) (less x) (den x * 2) (one-part x) (go x p t h) (half-rounds f x p)
  where
    go : (x : Float) → T (finite x) → T (fits f x) → den x * 2 ≤ 2 ^ low f → Exact f (plus x + less x) (den x * 2)
    go (fin true m e) p t h = rw (zero-add (m * up e)) (half-grid f true m e t h)
    go (fin false m e) p t h = rw (add-zero (m * up e)) (half-grid f false m e t h)
    go nan p t h = elim p [ ]
    go (inf _) p t h = elim p [ ]
