-- How far rounding moves a fraction: by half a unit in the last place at most, and by half of the format's
-- smallest value where it is subnormal. All distances are counted in halves of the format's smallest value:
-- `halves f` of them are 1. Assumes nothing.
use mathlib.Core.Path.{◌≡◌, refl, sym, ap, ◌∙◌, subst}
use mathlib.Core.Logic.{inl, inr}
use Prim.Native.Nat.{ℕ, zero, suc, ◌+◌, ◌-◌, ◌*◌, ◌/◌, ◌%◌, ◌^◌, ◌≤◌, ◌<◌, compare, Ordering}
use native.Mathlib.Nat.{le_of_eq, eq-or-lt_of_le, lt_of_le_of_lt, lt_of_lt_of_le, mul-pos, mul_assoc, mul-le-mul_right, lt_of_mul-lt-mul_right, mul-lt-mul_of_pos_right, eq_of_mul-eq-mul_right, one-mul, div-add-mod', mod-lt, div-lt_iff_lt-mul}
use native.Mathlib.Omega.{arith}
use mathlib.Core.Bool.{Bool, false}
use lib.Dec.{T, leb→le}
use lib.Pow.{pow-add, pow_pos, pow_mono, pow-lt}
use lib.Ieee.{Float, nan, inf, fin, Format, binary32, binary64, up, down, prec, emax, low, size, nearest, round}
use lib.Ieee.Digits.{size-le}
use lib.Ieee.Fits.{two, two-le_pos, down_pos}
use lib.Ieee.Exact.{HasValue, round_exact}
use lib.Ieee.Nearest.{closest}
use lib.Ieee.Order.{drop, kept}
use lib.Ieee.Scale.{finite, grid, overflow, round_val}
use lib.Ieee.Positive.{den}
use Rattle.ieee.specs.Fraction.{plus, less, Fraction, nothing, Within, own, halves, Val}
use Rattle.ieee.specs.Rounding.{Rounds, high, deep}
use Rattle.ieee.proofs.Laws.Test.{Compared, compared}
use Rattle.ieee.proofs.Laws.Round.{round-neg}
use Rattle.ieee.proofs.Laws.Order.{products, has-val, neg-val}
use Rattle.ieee.proofs.Laws.Apart.{within-coarser, within-finer}

-- ---- the nearest whole number lies within a half
closest-error : (a b : ℕ) → 0 < b → (2 * (closest a b * b) ≤ 2 * a + b) × (2 * a ≤ 2 * (closest a b * b) + b)
closest-error a b B = go (compare (a % b * 2) b) (compared (a % b * 2) b)
  where
    go : (o : Ordering) → Compared o (a % b * 2) b → (2 * (nearest (a / b) o * b) ≤ 2 * a + b) × (2 * a ≤ 2 * (nearest (a / b) o * b) + b)
    go Ordering.lt h = let w = div-add-mod' a b in (omega arith, omega arith)
    go Ordering.eq h = tie (a / b) (a % b) (a / b % 2) (div-add-mod' a b) h (omega arith)
      where
        tie : (q r t : ℕ) → q * b + r ≡ a → r * 2 ≡ b → t < 2 → (2 * ((q + t) * b) ≤ 2 * a + b) × (2 * a ≤ 2 * ((q + t) * b) + b)
        tie q r zero w h k = (omega arith, omega arith)
        tie q r (suc zero) w h k = (omega arith, omega arith)
        tie q r (suc (suc t)) w h k = absurd (omega arith)
    go Ordering.gt h = let w = div-add-mod' a b in let m = mod-lt a B in (omega arith, omega arith)

-- ---- one rounding, counted in the format's smallest values
-- `round` drops no more than j places of a fraction below 2 ^ (prec + j)
pub drop_le : (p n c j : ℕ) → 0 < c → n < 2 ^ (p + j) * c → drop p n c ≤ j
drop_le p n c j C h = spare (size (n / c)) (size-le (n / c) (p + j) ((div-lt_iff_lt-mul C).1 h))
  where
    spare : (z : ℕ) → z ≤ p + j → z - p ≤ j
    spare z k = omega arith

grid-error : (p n c j : ℕ) → 0 < c → drop p n c ≤ j → (2 * (kept p n c * 2 ^ drop p n c * c) ≤ 2 * n + 2 ^ j * c) × (2 * n ≤ 2 * (kept p n c * 2 ^ drop p n c * c) + 2 ^ j * c)
grid-error p n c j C h =
    let k = drop p n c in
    let w = closest-error n (c * 2 ^ k) (mul-pos C (pow_pos k)) in
    put (kept p n c) (2 ^ k) (2 ^ j) (pow_mono h) w.0 w.1
  where
    put : (q u v : ℕ) → u ≤ v → 2 * (q * (c * u)) ≤ 2 * n + c * u → 2 * n ≤ 2 * (q * (c * u)) + c * u → (2 * (q * u * c) ≤ 2 * n + v * c) × (2 * n ≤ 2 * (q * u * c) + v * c)
    put q u v a x y = let b = mul-le-mul_right c a in (omega arith, omega arith)

pub twice : (j : ℕ) → 2 ^ suc j ≡ 2 * 2 ^ j
twice j = ap (λ (z : ℕ). 2 ^ z) (omega arith) ∙ pow-add 2 1 j

double : (p j : ℕ) → 2 ^ (p + suc j) ≡ 2 * 2 ^ (p + j)
double p j = ap (λ (z : ℕ). 2 ^ z) (omega arith) ∙ pow-add 2 1 (p + j)

-- two fractions that one value has are equal
one_value : (x : Float) (s : Bool) (a c b d : ℕ) → HasValue x s a c → HasValue x s b d → b * c ≡ a * d
one_value nan s a c b d h k = absurd h
one_value (inf t) s a c b d h k = absurd h
one_value (fin t m e) s a c b d h k = cancel (m * up e) (down e) (down_pos e) h.1 k.1
  where
    cancel : (u v : ℕ) → 0 < v → u * c ≡ a * v → u * d ≡ b * v → b * c ≡ a * d
    cancel u v h x y =
        let z = ap (λ (w : ℕ). w * d) x in
        let t = ap (λ (w : ℕ). w * c) y in
        eq_of_mul-eq-mul_right v h (b * c) (a * d) (omega arith)

-- a fraction up to 2 ^ (prec + j): at the bound itself nothing is lost, and below it no more
-- than j places are dropped
pub grid-near : (f : Format) (a c j : ℕ) → 0 < c → prec f + suc j ≤ low f + suc (emax f) → a * 2 ^ low f ≤ 2 ^ (prec f + j) * c
    → (grid f a c < overflow f) × (2 * (grid f a c * c) ≤ 2 * (a * 2 ^ low f) + 2 ^ j * c) × (2 * (a * 2 ^ low f) ≤ 2 * (grid f a c * c) + 2 ^ j * c)
grid-near f a c j C J h =
    let n = a * 2 ^ low f in
    let p = prec f in
    let P : 0 < p = two-le_pos p (two f) in
    let next : n < 2 ^ (p + suc j) * c = step n (2 ^ (p + j)) (2 ^ (p + suc j)) (double p j) (pow_pos (p + j)) h in
    let wide = grid-error p n c (suc j) C (drop_le p n c (suc j) C next) in
    let fine : grid f a c < overflow f =
    lt_of_lt_of_le (lt_of_mul-lt-mul_right c (small (grid f a c) n (2 ^ (p + j)) (2 ^ (p + suc j)) (2 ^ j) (2 ^ suc j) (double p j) (twice j) (pow-lt (omega arith)) h wide.0)) (pow_mono J) in
    elim (eq-or-lt_of_le h) [
      | inl e ↦
          let w : grid f a c * c ≡ a * 2 ^ low f =
          one_value (round f false a c) false a c (grid f a c) (2 ^ low f)
          (round_exact f false a c 1 (p + j) C (pow-lt P) (lt_of_le_of_lt (le_of_eq (one-mul (2 ^ (p + j)))) (lt_of_lt_of_le (pow-lt (omega arith)) (pow_mono J))) (e ∙ ap (λ (z : ℕ). z * c) (sym (one-mul (2 ^ (p + j))))))
          (round_val f a c fine) in
          (fine, flat (grid f a c * c) n (2 ^ j * c) (le_of_eq w), flat n (grid f a c * c) (2 ^ j * c) (le_of_eq (sym w)))
      | inr l ↦ let w = grid-error p n c j C (drop_le p n c j C l) in (fine, w.0, w.1)
    ]
  where
    step : (n P Q : ℕ) → Q ≡ 2 * P → 0 < P → n ≤ P * c → n < Q * c
    step n P Q e k g =
        let x : Q * c ≡ 2 * (P * c) = ap (λ (z : ℕ). z * c) e ∙ mul_assoc 2 P c in
        let y : 0 < P * c = mul-pos k C in
        omega arith

    small : (G n P Q U W : ℕ) → Q ≡ 2 * P → W ≡ 2 * U → U < P → n ≤ P * c → 2 * (G * c) ≤ 2 * n + W * c → G * c < Q * c
    small G n P Q U W e e' k g w =
        let x : Q * c ≡ 2 * (P * c) = ap (λ (z : ℕ). z * c) e ∙ mul_assoc 2 P c in
        let y : W * c ≡ 2 * (U * c) = ap (λ (z : ℕ). z * c) e' ∙ mul_assoc 2 U c in
        let z : U * c < P * c = mul-lt-mul_of_pos_right k C in
        omega arith

    flat : (x y e : ℕ) → x ≤ y → 2 * x ≤ 2 * y + e
    flat x y e k = omega arith

-- the bound on p - n, of the magnitude r alone
limit : (p n c r L D U W : ℕ) → p ≡ n + r → D ≡ 2 * L → W ≡ 2 * U → p * D ≤ n * D + W * c → r * L ≤ U * c
limit p n c r L D U W e d v h =
    let x : p * D ≡ 2 * (n * L) + 2 * (r * L) = ap (λ (z : ℕ). z * D) e ∙ ap (λ (z : ℕ). (n + r) * z) d ∙ omega arith in
    let y : n * D ≡ 2 * (n * L) = ap (λ (z : ℕ). n * z) d ∙ omega arith in
    let z : W * c ≡ 2 * (U * c) = ap (λ (z : ℕ). z * c) v ∙ mul_assoc 2 U c in
    omega arith

-- from the magnitude r and the whole number G that it was rounded to, back to the fractions
put : (P N d p n c r G L D U : ℕ) → p ≡ n + r → D ≡ 2 * L → P * L ≡ G * d + N * L → 2 * (G * c) ≤ 2 * (r * L) + U * c → 2 * (r * L) ≤ 2 * (G * c) + U * c
    → ((P * c + n * d) * D ≤ (p * d + N * c) * D + U * (d * c)) × ((p * d + N * c) * D ≤ (P * c + n * d) * D + U * (c * d))
put P N d p n c r G L D U e b v x y =
    let x' = simp products at (mul-le-mul_right d x) in
    let y' = simp products at (mul-le-mul_right d y) in
    let v' = simp products at (ap (λ (z : ℕ). z * c) v) in
    (rw (b, e) (simp products (omega arith)), rw (b, e) (simp products (omega arith)))

-- ---- one rounding of either sign: |q| ≤ 2 ^ (prec + j) of the smallest values, and z, which is q rounded once,
-- is finite and within 2 ^ j halves of one.
-- So for |q| ≤ 2 ^ k the error is at most 2 ^ (k - prec - 1), half a unit in the last place, and never needs to be
-- less than half of the smallest value (j = 0).
pub rounds-near : (f : Format) (z : Float) (q : Fraction) (j : ℕ) → 0 < q.over → prec f + suc j ≤ low f + suc (emax f) → Within (2 ^ (prec f + suc j)) (halves f) q nothing
    → Rounds f z q.plus q.less q.over → T (finite z) × Within (2 ^ j) (halves f) (own z) q
rounds-near f z q j C J s (high a e) =
    let r = q.plus - q.less in
    let c = q.over in
    let L = 2 ^ low f in
    let fits = limit q.plus q.less c r L (halves f) (2 ^ (prec f + j)) (2 ^ (prec f + suc j)) (omega arith) (twice (low f)) (double (prec f) j) (let w = s.under in omega arith) in
    let w = grid-near f r c j C J fits in
    let v : Val z (grid f r c) 0 L = subst (λ (x : Float). Val x (grid f r c) 0 L) (sym e) (has-val (round f false r c) false (grid f r c) L (round_val f r c w.0)) in
    let near = put (plus z) (less z) (den z) q.plus q.less c r (grid f r c) L (halves f) (2 ^ j) (omega arith) (twice (low f)) (let x = v.1 in omega arith) w.1 w.2 in
    (v.0, record { under = near.0; above = near.1 })
rounds-near f z q j C J s (deep a e) =
    let r = q.less - q.plus in
    let c = q.over in
    let L = 2 ^ low f in
    let fits = limit q.less q.plus c r L (halves f) (2 ^ (prec f + j)) (2 ^ (prec f + suc j)) (omega arith) (twice (low f)) (double (prec f) j) (let w = s.above in omega arith) in
    let w = grid-near f r c j C J fits in
    let v : Val z 0 (grid f r c) L = subst (λ (x : Float). Val x 0 (grid f r c) L) (sym (e ∙ round-neg f false r c)) (neg-val (round f false r c) (grid f r c) 0 L (has-val (round f false r c) false (grid f r c) L (round_val f r c w.0))) in
    let near = put (less z) (plus z) (den z) q.less q.plus c r (grid f r c) L (halves f) (2 ^ j) (omega arith) (twice (low f)) (let x = v.1 in omega arith) w.1 w.2 in
    (v.0, record { under = let x = near.1 in simp products (omega arith); above = let x = near.0 in simp products (omega arith) })

-- ---- the same in plain powers of two
power : (a b c : ℕ) → a ≡ b + c → 2 ^ a ≡ 2 ^ b * 2 ^ c
power a b c h = ap (λ (t : ℕ). 2 ^ t) h ∙ pow-add 2 b c

deep-enough : (f : Format) → prec f ≤ low f
deep-enough binary32 = leb→le 24 149 tt
deep-enough binary64 = leb→le 53 1074 tt

-- a size of a / b and an error of e / d, with l and k the factors that turn both into halves
rescaled : (f : Format) (z : Float) (q : Fraction) (j a b l e d k : ℕ) → 0 < q.over → prec f + suc j ≤ low f + suc (emax f) → 0 < k → a * l ≡ 2 ^ (prec f + suc j) → b * l ≡ halves f → 2 ^ j ≡ e * k → halves f ≡ d * k
    → Within a b q nothing → Rounds f z q.plus q.less q.over → T (finite z) × Within e d (own z) q
rescaled f z q j a b l e d k C J K m n h g s r =
    let u : Within (2 ^ (prec f + suc j)) (halves f) q nothing = subst (λ (t : ℕ). Within t (halves f) q nothing) m (subst (λ (t : ℕ). Within (a * l) t q nothing) n (within-finer a b l q nothing s)) in
    let w = rounds-near f z q j C J u r in
    (w.0, within-coarser e d k (own z) q K (subst (λ (t : ℕ). Within (e * k) t (own z) q) g (subst (λ (t : ℕ). Within t (halves f) (own z) q) h w.1)))

-- |q| ≤ 2 ^ i gives an error of at most 2 ^ (i - prec - 1), for a 2 ^ i that the format holds
pub rounds-large : (f : Format) (z : Float) (q : Fraction) (i : ℕ) → 0 < q.over → i ≤ emax f → Within (2 ^ i) 1 q nothing → Rounds f z q.plus q.less q.over → T (finite z) × Within (2 ^ i) (2 ^ suc (prec f)) (own z) q
rounds-large f z q i C I = go (low f) (prec f) (deep-enough f) refl refl
  where
    go : (l p : ℕ) → p ≤ l → l ≡ low f → p ≡ prec f → Within (2 ^ i) 1 q nothing → Rounds f z q.plus q.less q.over → T (finite z) × Within (2 ^ i) (2 ^ suc (prec f)) (own z) q
    go l p h el ep =
        rescaled f z q (l + i - p) (2 ^ i) 1 (halves f) (2 ^ i) (2 ^ suc (prec f)) (2 ^ (l - p)) C (omega arith) (pow_pos (l - p))
        (sym (power (prec f + suc (l + i - p)) i (suc (low f)) (omega arith))) (one-mul (halves f)) (power (l + i - p) i (l - p) (omega arith)) (power (suc (low f)) (suc (prec f)) (l - p) (omega arith))

-- |q| ≤ 2 ^ -i gives an error of at most 2 ^ -(i + prec + 1), for a 2 ^ -i in the normal range
pub rounds-small : (f : Format) (z : Float) (q : Fraction) (i : ℕ) → 0 < q.over → i + prec f ≤ low f → Within 1 (2 ^ i) q nothing → Rounds f z q.plus q.less q.over → T (finite z) × Within 1 (2 ^ (i + suc (prec f))) (own z) q
rounds-small f z q i C I = go (low f) (prec f) I refl refl
  where
    go : (l p : ℕ) → i + p ≤ l → l ≡ low f → p ≡ prec f → Within 1 (2 ^ i) q nothing → Rounds f z q.plus q.less q.over → T (finite z) × Within 1 (2 ^ (i + suc (prec f))) (own z) q
    go l p h el ep =
        rescaled f z q (l - i - p) 1 (2 ^ i) (2 ^ (suc l - i)) 1 (2 ^ (i + suc (prec f))) (2 ^ (l - i - p)) C (omega arith) (pow_pos (l - i - p))
        (one-mul (2 ^ (suc l - i)) ∙ ap (λ (t : ℕ). 2 ^ t) (omega arith)) (sym (power (suc (low f)) i (suc l - i) (omega arith))) (sym (one-mul (2 ^ (l - i - p)))) (power (suc (low f)) (i + suc (prec f)) (l - i - p) (omega arith))

-- a subnormal q, |q| ≤ 2 ^ (prec - low), has an error of at most half of the smallest value
pub rounds-tiny : (f : Format) (z : Float) (q : Fraction) → 0 < q.over → Within (2 ^ suc (prec f)) (halves f) q nothing → Rounds f z q.plus q.less q.over → T (finite z) × Within 1 (halves f) (own z) q
rounds-tiny f z q C s r = rounds-near f z q 0 C (go (prec f) (low f) (deep-enough f)) (subst (λ (t : ℕ). Within (2 ^ t) (halves f) q nothing) (omega arith) s) r
  where
    go : (p l : ℕ) → p ≤ l → p + 1 ≤ l + suc (emax f)
    go p l h = omega arith
