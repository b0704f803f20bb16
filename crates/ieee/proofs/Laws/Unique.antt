-- A format writes each number in one way: two values that it holds and that are equal as numbers are the same data,
-- to a zero's sign. So the test `same_number` gives `Alike` (N10). Assumes nothing.
use mathlib.Core.Path.{◌≡◌, refl, sym, ap, ◌∙◌, subst}
use mathlib.Core.Logic.{◌≢◌, ◌⊎◌, inl, inr}
use Prim.Native.Nat.{ℕ, zero, suc, ◌+◌, ◌-◌, ◌*◌, ◌/◌, ◌^◌, ◌<◌}
use native.Mathlib.Nat.{le_antisymm, mul_right_comm, le_of_eq, lt_irrefl, zero-lt-suc, zero-mul, mul-pos, eq_of_mul-eq-mul_right}
use native.Mathlib.Omega.{arith}
use mathlib.Core.Bool.{Bool, true, false, ◌&&◌, ◌||◌, beq, cond}
use lib.IntN.{ℤ}
use lib.Dec.{T, eqb, eqb→eq}
use lib.Ieee.{Float, nan, inf, fin, Format, prec, low, up, down, size, le, eq, is_nan, fits, hid, top, of_bits, to_bits}
use lib.Ieee.Fits.{and_l, and_r, up_pos, down_pos}
use lib.Ieee.Exact.{HasValue}
use lib.Ieee.Nearest.{div_same}
use lib.Ieee.Order.{transfer}
use lib.Ieee.Bits.{of_bits-to_bits}
use lib.Ieee.Scale.{finite}
use Rattle.ieee.specs.Alike.{plain, signed, Alike, same_number}
use Rattle.ieee.specs.Fraction.{Val}
use Rattle.ieee.proofs.Laws.Like.{like-refl, like-of-eq, like-zero}
use Rattle.ieee.proofs.Laws.Test.{or_split}
use Rattle.ieee.proofs.Laws.Order.{le→cross, vals→le}

-- ---- two values that the format holds, and that are the same number with the same sign, are one
bits-same : (f : Format) (s : Bool) (m n : ℕ) (e d : ℤ) → m * up e * down d ≡ n * up d * down e → to_bits f (fin s m e) ≡ to_bits f (fin s n d)
unfolding to_bits
bits-same f s m n e d h =
    ap (λ (z : ℕ). cond s (top f) 0 + (size z - prec f) * hid f + z / 2 ^ (size z - prec f))
    (div_same (m * up e * 2 ^ low f) (down e) (n * up d * 2 ^ low f) (down d) (down_pos e) (down_pos d)
    (mul_right_comm (m * up e) (2 ^ low f) (down d) ∙ ap (λ (z : ℕ). z * 2 ^ low f) h ∙ mul_right_comm (n * up d) (down e) (2 ^ low f)))

pub value-unique : (f : Format) (x y : Float) (s : Bool) (a c b d : ℕ) → 0 < c → 0 < d → T (fits f x) → T (fits f y) → HasValue x s a c → HasValue y s b d → a * d ≡ b * c → x ≡ y
value-unique f nan y s a c b d C D p q h k r = elim h [ ]
value-unique f (inf _) y s a c b d C D p q h k r = elim h [ ]
value-unique f (fin t m e) nan s a c b d C D p q h k r = elim k [ ]
value-unique f (fin t m e) (inf _) s a c b d C D p q h k r = elim k [ ]
value-unique f (fin t m e) (fin u n g) s a c b d C D p q h k r =
    sym (of_bits-to_bits f (fin t m e) p)
    ∙ ap (λ (z : Bool). of_bits f (to_bits f (fin z m e))) h.0
    ∙ ap (of_bits f) (bits-same f s m n e g cross)
    ∙ ap (λ (z : Bool). of_bits f (to_bits f (fin z n g))) (sym k.0)
    ∙ of_bits-to_bits f (fin u n g) q
  where
    cross : m * up e * down g ≡ n * up g * down e
    cross =
        le_antisymm (transfer (m * up e) (n * up g) (down e) (down g) a b c d C D h.1 k.1 (le_of_eq r))
        (transfer (n * up g) (m * up e) (down g) (down e) b a d c D C k.1 h.1 (le_of_eq (sym r)))

-- ---- equal magnitudes
none_left : (n : ℕ) (u v : ℕ) → 0 < u → 0 < v → 0 ≡ suc n * u * v → ⊥
none_left n u v U W h = lt_irrefl 0 (subst (λ (z : ℕ). 0 < z) (sym h) (mul-pos (mul-pos (zero-lt-suc n) U) W))

level-alike : (f : Format) (s t : Bool) (m n : ℕ) (e d : ℤ) → T (fits f (fin s m e)) → T (fits f (fin t n d)) → m * up e * down d ≡ n * up d * down e → (m * up e * down d ≢ 0 → s ≡ t) → Alike (fin s m e) (fin t n d)
level-alike f s t zero zero e d p q h g = like-zero false s t e d
level-alike f s t zero (suc n) e d p q h g = absurd (none_left n (up d) (down e) (up_pos d) (down_pos e) (sym (simp zero-mul) ∙ h))
level-alike f s t (suc m) zero e d p q h g = absurd (none_left m (up e) (down d) (up_pos e) (down_pos d) (sym (simp zero-mul) ∙ sym h))
level-alike f s t (suc m) (suc n) e d p q h g =
    let w : t ≡ s = sym (g (λ z. none_left m (up e) (down d) (up_pos e) (down_pos d) (sym z))) in
    like-of-eq (value-unique f (fin s (suc m) e) (fin t (suc n) d) s (suc m * up e) (down e) (suc n * up d) (down d) (down_pos e) (down_pos d) p q (refl, refl) (w, refl) h)

-- ---- from equality as numbers to `Alike`
beq_same : (s t : Bool) → T (beq s t) → s ≡ t
beq_same true true h = refl
beq_same true false h = absurd h
beq_same false true h = absurd h
beq_same false false h = refl

pub eq→alike : (f : Format) (x y : Float) → T (fits f x) → T (fits f y) → T (eq x y) → Alike x y
unfolding eq
eq→alike f nan y p q h = absurd h
eq→alike f (inf s) nan p q h = absurd h
eq→alike f (inf s) (inf t) p q h = rw (beq_same s t h) (like-refl (inf t))
eq→alike f (inf s) (fin t n d) p q h = absurd h
eq→alike f (fin s m e) nan p q h = absurd h
eq→alike f (fin s m e) (inf t) p q h = absurd h
eq→alike f (fin s m e) (fin t n d) p q h =
    let a = m * up e * down d in
    let b = n * up d * down e in
    level-alike f s t m n e d p q (eqb→eq a b (and_l (eqb a b) (beq s t || eqb a 0) h)) (λ z. sign (or_split (beq s t) (eqb a 0) (and_r (eqb a b) (beq s t || eqb a 0) h)) z)
  where
    sign : T (beq s t) ⊎ T (eqb (m * up e * down d) 0) → m * up e * down d ≢ 0 → s ≡ t
    sign (inl w) z = beq_same s t w
    sign (inr w) z = absurd (z (eqb→eq (m * up e * down d) 0 w))

both-nan : (x y : Float) → T (is_nan x && is_nan y) → Alike x y
unfolding is_nan
both-nan nan nan h = like-refl nan
both-nan nan (inf t) h = absurd h
both-nan nan (fin t n d) h = absurd h
both-nan (inf s) y h = absurd h
both-nan (fin s m e) y h = absurd h

pub same→alike : (f : Format) (x y : Float) → T (fits f x) → T (fits f y) → T (same_number x y) → Alike x y
same→alike f x y p q h = elim (or_split (eq x y) (is_nan x && is_nan y) h) [ inl w ↦ eq→alike f x y p q w | inr w ↦ both-nan x y w ]

-- ---- from the order both ways
pub le-both : (f : Format) (x y : Float) → T (fits f x) → T (fits f y) → T (finite x) → T (finite y) → T (le x y) → T (le y x) → Alike x y
le-both f nan y t u p q h k = absurd p
le-both f (inf s) y t u p q h k = absurd p
le-both f (fin s m e) nan t u p q h k = absurd q
le-both f (fin s m e) (inf z) t u p q h k = absurd q
le-both f (fin false m e) (fin false n d) t u p q h k =
    let a = le→cross (fin false m e) (fin false n d) tt tt h in
    let b = le→cross (fin false n d) (fin false m e) tt tt k in
    level-alike f false false m n e d t u (omega arith) (λ z. refl)
le-both f (fin true m e) (fin true n d) t u p q h k =
    let a = le→cross (fin true m e) (fin true n d) tt tt h in
    let b = le→cross (fin true n d) (fin true m e) tt tt k in
    level-alike f true true m n e d t u (omega arith) (λ z. refl)
le-both f (fin false m e) (fin true n d) t u p q h k =
    let a = le→cross (fin false m e) (fin true n d) tt tt h in
    let z : m * up e * down d + n * up d * down e ≡ 0 = omega arith in
    level-alike f false true m n e d t u (omega arith) (λ w. absurd (w (omega arith)))
le-both f (fin true m e) (fin false n d) t u p q h k =
    let a = le→cross (fin false n d) (fin true m e) tt tt k in
    let z : m * up e * down d + n * up d * down e ≡ 0 = omega arith in
    level-alike f true false m n e d t u (omega arith) (λ w. absurd (w (omega arith)))

-- ---- one fraction, one value, but for a zero's sign
zero-fraction : (s : Bool) (e : ℤ) (p n c : ℕ) → Val (fin s zero e) p n c → p ≡ n
zero-fraction true e p n c v = eq_of_mul-eq-mul_right (down e) (down_pos e) p n (let k = v.1 in let a = zero-mul (up e) in omega arith)
zero-fraction false e p n c v = eq_of_mul-eq-mul_right (down e) (down_pos e) p n (let k = v.1 in let a = zero-mul (up e) in omega arith)

pub same-data : (f : Format) (x y : Float) (p n c : ℕ) → 0 < c → T (fits f x) → T (fits f y) → Val x p n c → Val y p n c → (p ≡ n → x ≡ y) → x ≡ y
unfolding plain signed
same-data f nan y p n c C t u v w z = absurd v.0
same-data f (inf s) y p n c C t u v w z = absurd v.0
same-data f (fin s zero e) y p n c C t u v w z = z (zero-fraction s e p n c v)
same-data f (fin s (suc m) e) nan p n c C t u v w z = absurd w.0
same-data f (fin s (suc m) e) (inf r) p n c C t u v w z = absurd w.0
same-data f (fin s (suc m) e) (fin r zero d) p n c C t u v w z = z (zero-fraction r d p n c w)
same-data f (fin s (suc m) e) (fin r (suc k) d) p n c C t u v w z =
    let x = fin s (suc m) e in
    let y = fin r (suc k) d in
    (le-both f x y t u tt tt (vals→le x y p n c p n c C C v w (le_of_eq refl)) (vals→le y x p n c p n c C C w v (le_of_eq refl))).same
