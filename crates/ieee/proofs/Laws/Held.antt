-- Rounding keeps the order with a value that the format holds: what lies at or above it before rounding does so after
-- it. Assumes nothing.
use mathlib.Core.Path.{◌≡◌, refl, sym, ap, ◌∙◌, subst}
use Prim.Native.Nat.{ℕ, zero, suc, ◌+◌, ◌-◌, ◌*◌, ◌^◌, ◌≤◌, ◌<◌, ◌%◌}
use native.Mathlib.Nat.{pow-succ', mul-le-mul_right, mul_comm, mul_left_comm, le_trans, le_of_eq, le_of_suc-le-suc, not-le_of_lt, lt_of_not-le, zero-lt-suc, mul-one, mul_assoc, lt_of_mul-lt-mul_right, mul-lt-mul_of_pos_right, mul-pos}
use native.Mathlib.Omega.{arith}
use mathlib.Core.Bool.{Bool, true, false, ◌&&◌}
use lib.IntN.{ℤ, pos, negsuc}
use lib.Dec.{T, ltb, leb, eqb, eqb→eq, ltb→lt, leb→le}
use lib.Pow.{pow-add, pow_pos, pow_mono, pow-lt}
use lib.Ieee.{Float, nan, inf, fin, Format, prec, emax, low, up, down, round, le, fits}
use lib.Ieee.Fits.{and_l, and_r}
use lib.Ieee.Exact.{HasValue, round_exact}
use lib.Ieee.Scale.{finite}
use lib.Ieee.Positive.{den, den_pos}
use Rattle.ieee.specs.Fraction.{plus, less, Val}
use Rattle.ieee.specs.Rounding.{Rounds}
use Rattle.ieee.proofs.Laws.Order.{own_val, has-val, ineq, vals→le, le-trans-float}
use Rattle.ieee.proofs.Laws.Rounds.{at_high, at-deep, rounds-mono}

-- ---- a value that the format holds rounds to itself
-- what `fits` says of a finite value
pub fits-parts : (f : Format) (s : Bool) (m : ℕ) (e : ℤ) → T (fits f (fin s m e)) → (m < 2 ^ prec f) × (down e ≤ 2 ^ low f) × (m * up e < 2 ^ suc (emax f) * down e)
unfolding fits
fits-parts f s zero (pos zero) t = (pow_pos (prec f), pow_pos (low f), mul-pos (pow_pos (suc (emax f))) (zero-lt-suc 0))
fits-parts f s zero (pos (suc k)) t = absurd (never (2 ^ suc k) (pow-lt (zero-lt-suc k)) (eqb→eq (2 ^ suc k * 1) 1 t))
  where
    never : (w : ℕ) → 1 < w → w * 1 ≡ 1 → ⊥
    never w h g = omega arith
fits-parts f s zero (negsuc k) t = absurd (never (2 ^ suc k) (pow-lt (zero-lt-suc k)) (eqb→eq (1 * 2 ^ suc k) 1 t))
  where
    never : (w : ℕ) → 1 < w → 1 * w ≡ 1 → ⊥
    never w h g = omega arith
fits-parts f s (suc m) e t =
    let A = eqb (suc m % 2) 1 in
    let B = ltb (suc m) (2 ^ prec f) in
    let C = leb (down e) (2 ^ low f) in
    let D = ltb (suc m * up e) (2 ^ suc (emax f) * down e) in (
      ltb→lt (suc m) (2 ^ prec f) (and_r A B (and_l (A && B) C (and_l (A && B && C) D t))),
      leb→le (down e) (2 ^ low f) (and_r (A && B) C (and_l (A && B && C) D t)),
      ltb→lt (suc m * up e) (2 ^ suc (emax f) * down e) (and_r (A && B && C) D t),
    )

pub pow-back : (i j : ℕ) → 2 ^ i ≤ 2 ^ j → i ≤ j
pow-back i j h = le_of_suc-le-suc (lt_of_not-le (λ (g : suc j ≤ i). not-le_of_lt (pow-lt g) h))

pub pow_below : (i j : ℕ) → 2 ^ i < 2 ^ j → i < j
pow_below i j h = lt_of_not-le (λ (g : j ≤ i). not-le_of_lt h (pow_mono g))

-- m * 2 ^ e and any whole multiple of 2 ^ e that is no larger are on the format's grid
pub on-grid : (f : Format) (s : Bool) (m : ℕ) (e : ℤ) → m < 2 ^ prec f → down e ≤ 2 ^ low f → m * up e < 2 ^ suc (emax f) * down e → HasValue (round f s (m * up e) (down e)) s (m * up e) (down e)
on-grid f s m (pos k) a b c =
    round_exact f s (m * 2 ^ k) 1 m (k + low f) (zero-lt-suc 0) a
    (subst (λ (z : ℕ). z < 2 ^ (low f + suc (emax f))) (simp (pow-add, mul_assoc))
    (subst (λ (z : ℕ). m * 2 ^ k * 2 ^ low f < z) (simp (pow-add, mul-one, mul_comm)) (mul-lt-mul_of_pos_right c (pow_pos (low f)))))
    (simp (pow-add, mul_assoc, mul-one))
on-grid f s m (negsuc k) a b c =
    let l = low f in
    let i = suc k in
    let L : i ≤ l = pow-back i l b in
    let j = l - i in
    let J : j + i ≡ l = omega arith in
    let W : 2 ^ l ≡ 2 ^ j * 2 ^ i = ap (λ (z : ℕ). 2 ^ z) (sym J) ∙ pow-add 2 j i in
    round_exact f s (m * 1) (2 ^ i) m j (pow_pos i) a
    (lt_of_mul-lt-mul_right (2 ^ i)
    (subst (λ (z : ℕ). z < 2 ^ (l + suc (emax f)) * 2 ^ i) (ap (λ (z : ℕ). m * 1 * z) W ∙ simp (mul-one, mul_assoc))
    (subst (λ (z : ℕ). m * 1 * 2 ^ l < z) (simp (pow-add, mul_comm, mul_left_comm)) (mul-lt-mul_of_pos_right c (pow_pos l)))))
    (ap (λ (z : ℕ). m * 1 * z) W ∙ simp (mul-one, mul_assoc))

-- x's own fraction, rounded
own-rounds : (f : Format) (x : Float) → T (finite x) → T (fits f x) → (z : Float) × Rounds f z (plus x) (less x) (den x) × Val z (plus x) (less x) (den x)
own-rounds f nan p t = absurd p
own-rounds f (inf s) p t = absurd p
own-rounds f (fin false m e) p t =
    let k = fits-parts f false m e t in
    let z = round f false (m * up e) (down e) in
    (z, at_high f (m * up e) 0 (down e) (m * up e) (omega arith), has-val z false (m * up e) (down e) (on-grid f false m e k.0 k.1 k.2))
own-rounds f (fin true m e) p t =
    let k = fits-parts f true m e t in
    let z = round f true (m * up e) (down e) in
    (z, at-deep f 0 (m * up e) (down e) (m * up e) (omega arith), has-val z true (m * up e) (down e) (on-grid f true m e k.0 k.1 k.2))

-- y is a / d by `Val`, and z is the fraction (p - n) / c, rounded
pub rounds-above : (f : Format) (y z : Float) (a b d p n c : ℕ) → T (fits f y) → Val y a b d → 0 < d → 0 < c → Rounds f z p n c → a * c + n * d ≤ p * d + b * c → T (le y z)
rounds-above f y z a b d p n c t v D C r h =
    let o = own-rounds f y v.0 t in
    let w : plus y * c + n * den y ≤ p * den y + less y * c = ineq (plus y) (less y) (den y) p n c a b d p n c D C v.1 refl h in
    le-trans-float y o.0 z
    (vals→le y o.0 (plus y) (less y) (den y) (plus y) (less y) (den y) (den_pos y) (den_pos y) (own_val y v.0) o.2 (le_of_eq refl))
    (rounds-mono f o.0 z (plus y) (less y) (den y) p n c (den_pos y) C o.1 r w)

pub rounds-below : (f : Format) (y z : Float) (a b d p n c : ℕ) → T (fits f y) → Val y a b d → 0 < d → 0 < c → Rounds f z p n c → p * d + b * c ≤ a * c + n * d → T (le z y)
rounds-below f y z a b d p n c t v D C r h =
    let o = own-rounds f y v.0 t in
    let w : p * den y + less y * c ≤ plus y * c + n * den y = ineq p n c (plus y) (less y) (den y) p n c a b d C D refl v.1 h in
    le-trans-float z o.0 y
    (rounds-mono f z o.0 p n c (plus y) (less y) (den y) C (den_pos y) r o.1 w)
    (vals→le o.0 y (plus y) (less y) (den y) (plus y) (less y) (den y) (den_pos y) (den_pos y) o.2 (own_val y v.0) (le_of_eq refl))

-- ---- from 2 ^ (prec - 1) up, either way, a value that the format holds has no fraction
pub no_fraction : (f : Format) (x : Float) → T (finite x) → T (fits f x) → 2 ^ prec f * den x ≤ 2 * (plus x + less x) → (q : ℕ) × (r : ℕ) × Val x q r 1
no_fraction f nan p t h = absurd p
no_fraction f (inf s) p t h = absurd p
no_fraction f (fin true m (pos k)) p t h = (0, m * 2 ^ k, (tt, omega arith))
no_fraction f (fin false m (pos k)) p t h = (m * 2 ^ k, 0, (tt, omega arith))
no_fraction f (fin s m (negsuc k)) p t h = absurd (never (2 ^ prec f) (fits-parts f s m (negsuc k) t).0 (size s h))
  where
    size : (s : Bool) → 2 ^ prec f * 2 ^ suc k ≤ 2 * (plus (fin s m (negsuc k)) + less (fin s m (negsuc k))) → 2 ^ prec f * 2 ^ suc k ≤ 2 * m
    size true h = omega arith
    size false h = omega arith

    never : (w : ℕ) → m < w → w * 2 ^ suc k ≤ 2 * m → ⊥
    never w a b =
        let e : w * 2 ^ suc k ≡ 2 * (w * 2 ^ k) = ap (λ (z : ℕ). w * z) (pow-succ' 2 k) ∙ mul_left_comm w 2 (2 ^ k) in
        let c : w * 1 ≤ w * 2 ^ k = le_trans (le_of_eq (mul_comm w 1)) (le_trans (mul-le-mul_right w (pow_pos k)) (le_of_eq (mul_comm (2 ^ k) w))) in
        omega arith
