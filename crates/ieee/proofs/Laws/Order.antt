-- The order of finite values as an order of their fractions (plus - less) / den: one shape serves both signs and both
-- zeros, so that a law about the order is a linear fact over ℕ. Assumes nothing.
use mathlib.Core.Path.{◌≡◌, refl, sym, ap, subst}
use mathlib.Core.Logic.{◌⊎◌, inl, inr}
use Prim.Native.Nat.{ℕ, ◌+◌, ◌-◌, ◌*◌, ◌^◌, ◌≤◌, ◌<◌}
use native.Mathlib.Nat.{le_of_eq, le_of_lt, le_antisymm, not-le_of_lt, lt_of_not-le, lt_irrefl, add-mul, mul-add, mul_comm, mul_assoc, mul_left_comm, mul-le-mul_right, mul-lt-mul_of_pos_right, le_of_mul-le-mul_right, mul-pos}
use native.Mathlib.Omega.{arith}
use mathlib.Core.Bool.{Bool, true, false, not, ◌&&◌, ◌||◌, cond}
use lib.IntN.{pos}
use lib.Dec.{T, T_not, not_T, ltb, eqb, eqb→eq, ltb→lt, lt→ltb, nltb→le}
use lib.Ieee.{Float, nan, inf, fin, up, down, neg, le, lt, eq}
use lib.Ieee.Fits.{and_l, and_r, and_i, eq→eqb, down_pos}
use lib.Ieee.Bits.{is_false}
use lib.Ieee.Exact.{HasValue}
use lib.Ieee.Scale.{finite}
use lib.Ieee.Positive.{den, den_pos}
use Rattle.ieee.specs.Notation.{zero₀}
use Rattle.ieee.specs.Fraction.{plus, less, Val, number}
use Rattle.ieee.proofs.Laws.Test.{or_split, or_left, or_right}
use Rattle.ieee.proofs.Laws.Compare.{eq_swap}

-- products multiplied out and put in one order, so that omega can take each for an unknown
pub ruleset products = (add-mul, mul-add, mul_assoc, mul_comm, mul_left_comm)

-- a multiple of d, less another, is one
pub multiple-less : (a d u w : ℕ) → 0 < d → a + w * d ≡ u * d → a ≡ (u - w) * d
multiple-less a d u w D h =
    let k : w ≤ u = le_of_mul-le-mul_right {k = d} (omega arith) D in
    let g = ap (λ (z : ℕ). z * d) (split u w k) in
    omega arith
  where
    split : (u w : ℕ) → w ≤ u → u ≡ (u - w) + w
    split u w k = omega arith

-- x ≤ y, of their fractions
abbrev pub Cross : Float → Float → Type 0
Cross x y = plus x * den y + less y * den x ≤ plus y * den x + less x * den y

-- ---- the order
-- of two magnitudes with the same sign, the test that `le` is
of_le : (a b a' b' : ℕ) → a ≤ b → (a ≡ b → a' ≡ b') → T (ltb a b || (eqb a' b' && true))
of_le a b a' b' h e = go (ltb a b) (nltb→le a b)
  where
    go : (t : Bool) → (T (not t) → b ≤ a) → T (t || (eqb a' b' && true))
    go true k = tt
    go false k = and_i (eqb a' b') true (eq→eqb (e (le_antisymm h (k tt)))) tt

le_of : (a b a' b' : ℕ) → (a' ≡ b' → a ≡ b) → T (ltb a b || (eqb a' b' && true)) → a ≤ b
le_of a b a' b' e t = elim (or_split (ltb a b) (eqb a' b' && true) t) [ inl u ↦ le_of_lt (ltb→lt a b u) | inr u ↦ le_of_eq (e (eqb→eq a' b' (and_l (eqb a' b') true u))) ]

-- -a ≤ b always
neg-pos : (a b : ℕ) → T (ltb 0 (a + b) || (eqb a b && (false || eqb a 0)))
neg-pos a b = go (ltb 0 (a + b)) (nltb→le 0 (a + b))
  where
    go : (t : Bool) → (T (not t) → a + b ≤ 0) → T (t || (eqb a b && (false || eqb a 0)))
    go true k = tt
    go false k =
        let h : a + b ≤ 0 = k tt in
        and_i (eqb a b) (eqb a 0) (eq→eqb {a = a} {b = b} (omega arith)) (eq→eqb {a = a} {b = 0} (omega arith))

pub le→cross : (x y : Float) → T (finite x) → T (finite y) → T (le x y) → Cross x y
unfolding le
le→cross nan y p q h = absurd p
le→cross (inf s) y p q h = absurd p
le→cross (fin s m e) nan p q h = absurd q
le→cross (fin s m e) (inf t) p q h = absurd q
le→cross (fin false m e) (fin false n d) p q h =
    let k = le_of (m * up e * down d) (n * up d * down e) (m * up e * down d) (n * up d * down e) (λ z. z) h in omega arith
le→cross (fin false m e) (fin true n d) p q h =
    let a = m * up e * down d in
    let b = n * up d * down e in
    let z : a ≡ 0 = eqb→eq a 0 (and_r (eqb a b) (eqb a 0) h) in
    let k : a ≡ b = eqb→eq a b (and_l (eqb a b) (eqb a 0) h) in
    omega arith
le→cross (fin true m e) (fin false n d) p q h = omega arith
le→cross (fin true m e) (fin true n d) p q h =
    let k = le_of (n * up d * down e) (m * up e * down d) (m * up e * down d) (n * up d * down e) sym h in omega arith

pub cross→le : (x y : Float) → T (finite x) → T (finite y) → Cross x y → T (le x y)
unfolding le
cross→le nan y p q h = absurd p
cross→le (inf s) y p q h = absurd p
cross→le (fin s m e) nan p q h = absurd q
cross→le (fin s m e) (inf t) p q h = absurd q
cross→le (fin false m e) (fin false n d) p q h = of_le (m * up e * down d) (n * up d * down e) (m * up e * down d) (n * up d * down e) (omega arith) (λ z. z)
cross→le (fin false m e) (fin true n d) p q h =
    let a = m * up e * down d in
    let b = n * up d * down e in
    and_i (eqb a b) (eqb a 0) (eq→eqb {a = a} {b = b} (omega arith)) (eq→eqb {a = a} {b = 0} (omega arith))
cross→le (fin true m e) (fin false n d) p q h = neg-pos (m * up e * down d) (n * up d * down e)
cross→le (fin true m e) (fin true n d) p q h = of_le (n * up d * down e) (m * up e * down d) (m * up e * down d) (n * up d * down e) (omega arith) sym

-- x < y, of their fractions
pub lt→cross : (x y : Float) → T (finite x) → T (finite y) → T (lt x y) → plus x * den y + less y * den x < plus y * den x + less x * den y
unfolding lt
lt→cross nan y p q h = absurd p
lt→cross (inf s) y p q h = absurd p
lt→cross (fin s m e) nan p q h = absurd q
lt→cross (fin s m e) (inf t) p q h = absurd q
lt→cross (fin false m e) (fin false n d) p q h = let k = ltb→lt (m * up e * down d) (n * up d * down e) h in omega arith
lt→cross (fin false m e) (fin true n d) p q h = absurd h
lt→cross (fin true m e) (fin false n d) p q h = let k = ltb→lt 0 (m * up e * down d + n * up d * down e) h in omega arith
lt→cross (fin true m e) (fin true n d) p q h = let k = ltb→lt (n * up d * down e) (m * up e * down d) h in omega arith

pub cross→lt : (x y : Float) → T (finite x) → T (finite y) → plus x * den y + less y * den x < plus y * den x + less x * den y → T (lt x y)
unfolding lt
cross→lt nan y p q h = absurd p
cross→lt (inf s) y p q h = absurd p
cross→lt (fin s m e) nan p q h = absurd q
cross→lt (fin s m e) (inf t) p q h = absurd q
cross→lt (fin false m e) (fin false n d) p q h = lt→ltb (m * up e * down d) (n * up d * down e) (omega arith)
cross→lt (fin false m e) (fin true n d) p q h = let z : ◌<◌ 0 0 = omega arith in absurd (lt_irrefl 0 z)
cross→lt (fin true m e) (fin false n d) p q h = lt→ltb 0 (m * up e * down d + n * up d * down e) (omega arith)
cross→lt (fin true m e) (fin true n d) p q h = lt→ltb (n * up d * down e) (m * up e * down d) (omega arith)

-- where x < y fails, and neither is a NaN, y ≤ x
pub not-lt→le : (x y : Float) → T (number x) → T (number y) → T (not (lt x y)) → T (le y x)
not-lt→le nan y p q h = absurd p
not-lt→le (inf s) nan p q h = absurd q
not-lt→le (fin s m e) nan p q h = absurd q
not-lt→le (inf true) (inf true) p q h = unfold le in tt
not-lt→le (inf true) (inf false) p q h = absurd (unfold lt in h)
not-lt→le (inf false) (inf true) p q h = unfold le in tt
not-lt→le (inf false) (inf false) p q h = unfold le in tt
not-lt→le (inf true) (fin t n d) p q h = absurd (unfold lt in h)
not-lt→le (inf false) (fin t n d) p q h = unfold le in tt
not-lt→le (fin s m e) (inf true) p q h = unfold le in tt
not-lt→le (fin s m e) (inf false) p q h = absurd (unfold lt in h)
not-lt→le (fin s m e) (fin t n d) p q h =
    let x = fin s m e in
    let y = fin t n d in
    cross→le y x tt tt (le_of_not_lt (λ g. T_not (lt x y) h (cross→lt x y tt tt g)))
  where
    le_of_not_lt : {a b : ℕ} → ¬ (b < a) → a ≤ b
    le_of_not_lt n = omega arith

pub not-le→lt : (x y : Float) → T (number x) → T (number y) → T (not (le x y)) → T (lt y x)
not-le→lt x y p q h = go (lt y x) (λ t. t) (not-lt→le y x q p)
  where
    go : (b : Bool) → (T b → T (lt y x)) → (T (not b) → T (le x y)) → T (lt y x)
    go true f g = f tt
    go false f g = absurd (T_not (le x y) h (g tt))

-- what lies above something is a number
pub above-number : (x y : Float) → T (lt x y) → T (number y)
above-number x (inf t) h = tt
above-number x (fin t n d) h = tt
above-number x nan h = absurd (never x h)
  where
    never : (x : Float) → T (lt x nan) → ⊥
    never nan h = unfold lt in h
    never (inf s) h = unfold lt in h
    never (fin s m e) h = unfold lt in h

pub finite_number : (x : Float) → T (finite x) → T (number x)
finite_number nan p = p
finite_number (inf s) p = tt
finite_number (fin s m e) p = tt

-- ---- a value from 0 up has nothing to take off, a zero with a minus sign included
pub less_none : (x : Float) → T (finite x) → T (le zero₀ x) → less x ≡ 0
less_none (fin false m e) p h = refl
less_none (fin true m e) p h = let k = le→cross zero₀ (fin true m e) tt p h in omega arith
less_none nan p h = elim p [ ]
less_none (inf _) p h = elim p [ ]

pub one-part : (x : Float) → (plus x ≡ 0) ⊎ (less x ≡ 0)
one-part nan = inl refl
one-part (inf s) = inl refl
one-part (fin true m e) = inl refl
one-part (fin false m e) = inr refl

-- and one above 0 has something to add
pub plus-some : (x : Float) → T (finite x) → T (lt zero₀ x) → (0 < plus x) × (less x ≡ 0)
plus-some (fin false m e) p h = let k = lt→cross zero₀ (fin false m e) tt p h in (omega arith, refl)
plus-some (fin true m e) p h = let k = lt→cross zero₀ (fin true m e) tt p h in (omega arith, omega arith)
plus-some nan p h = elim p [ ]
plus-some (inf _) p h = elim p [ ]

pub own_val : (x : Float) → T (finite x) → Val x (plus x) (less x) (den x)
own_val x h = (h, refl)

-- what kit's lemmas say of a magnitude with a sign
pub has-val : (x : Float) (s : Bool) (a c : ℕ) → HasValue x s a c → Val x (cond s 0 a) (cond s a 0) c
has-val nan s a c h = absurd h
has-val (inf t) s a c h = absurd h
has-val (fin true m e) true a c h = (tt, let k = h.1 in omega arith)
has-val (fin false m e) false a c h = (tt, let k = h.1 in omega arith)
has-val (fin true m e) false a c h = absurd (subst T h.0 tt)
has-val (fin false m e) true a c h = absurd (subst T (sym h.0) tt)

-- and back, above zero
pub val-has : (x : Float) (p n c : ℕ) → n < p → Val x p n c → HasValue x false (p - n) c
val-has nan p n c h v = absurd v.0
val-has (inf t) p n c h v = absurd v.0
val-has (fin false m e) p n c h v = (refl, multiple-less (m * up e * c) (down e) p n (down_pos e) (let k = v.1 in omega arith))
val-has (fin true m e) p n c h v = absurd (lt_irrefl 0 (let k = v.1 in let g = mul-lt-mul_of_pos_right h (down_pos e) in omega arith))

-- fractions (P - N) / d that equal (p - n) / c, and the order of the two pairs is one
pub ineq : (P N d P' N' d' p n c p' n' c' : ℕ) → 0 < c → 0 < c' → P * c + n * d ≡ p * d + N * c → P' * c' + n' * d' ≡ p' * d' + N' * c' → p * c' + n' * c ≤ p' * c + n * c' → P * d' + N' * d ≤ P' * d + N * d'
ineq P N d P' N' d' p n c p' n' c' C C' e e' h =
    let x = simp products at (ap (λ (z : ℕ). z * (d' * c')) e) in
    let y = simp products at (ap (λ (z : ℕ). z * (d * c)) e') in
    let z = simp products at (mul-le-mul_right (d * d') h) in
    le_of_mul-le-mul_right {k = c * c'} (simp products (omega arith)) (mul-pos C C')

pub vals→le : (x y : Float) (p n c p' n' c' : ℕ) → 0 < c → 0 < c' → Val x p n c → Val y p' n' c' → p * c' + n' * c ≤ p' * c + n * c' → T (le x y)
vals→le x y p n c p' n' c' C C' v w h = cross→le x y v.0 w.0 (ineq (plus x) (less x) (den x) (plus y) (less y) (den y) p n c p' n' c' C C' v.1 w.1 h)

-- the same, of the strict order
pub ineq-lt : (P N d P' N' d' p n c p' n' c' : ℕ) → 0 < d → 0 < d' → P * c + n * d ≡ p * d + N * c → P' * c' + n' * d' ≡ p' * d' + N' * c' → p * c' + n' * c < p' * c + n * c' → P * d' + N' * d < P' * d + N * d'
ineq-lt P N d P' N' d' p n c p' n' c' D D' e e' h =
    lt_of_not-le (λ (g : P' * d + N * d' ≤ P * d' + N' * d). not-le_of_lt h (ineq p' n' c' p n c P' N' d' P N d D' D (sym e') (sym e) (omega arith)))

pub vals→lt : (x y : Float) (p n c p' n' c' : ℕ) → Val x p n c → Val y p' n' c' → p * c' + n' * c < p' * c + n * c' → T (lt x y)
vals→lt x y p n c p' n' c' v w h = cross→lt x y v.0 w.0 (ineq-lt (plus x) (less x) (den x) (plus y) (less y) (den y) p n c p' n' c' (den_pos x) (den_pos y) v.1 w.1 h)

pub lt→vals : (x y : Float) (p n c p' n' c' : ℕ) → 0 < c → 0 < c' → Val x p n c → Val y p' n' c' → T (lt x y) → p * c' + n' * c < p' * c + n * c'
lt→vals x y p n c p' n' c' C C' v w h = ineq-lt p n c p' n' c' (plus x) (less x) (den x) (plus y) (less y) (den y) C C' (sym v.1) (sym w.1) (lt→cross x y v.0 w.0 h)

pub le→vals : (x y : Float) (p n c p' n' c' : ℕ) → 0 < c → 0 < c' → Val x p n c → Val y p' n' c' → T (le x y) → p * c' + n' * c ≤ p' * c + n * c'
le→vals x y p n c p' n' c' C C' v w h = ineq p n c p' n' c' (plus x) (less x) (den x) (plus y) (less y) (den y) (den_pos x) (den_pos y) (sym v.1) (sym w.1) (le→cross x y v.0 w.0 h)

-- ---- the order is one order, infinities included
le-nan : (x : Float) → T (le x nan) → ⊥
unfolding le
le-nan nan h = h
le-nan (inf true) h = h
le-nan (inf false) h = h
le-nan (fin s m e) h = h

cross-trans : (P N d P' N' d' P'' N'' d'' : ℕ) → 0 < d' → P * d' + N' * d ≤ P' * d + N * d' → P' * d'' + N'' * d' ≤ P'' * d' + N' * d'' → P * d'' + N'' * d ≤ P'' * d + N * d''
cross-trans P N d P' N' d' P'' N'' d'' D h k =
    let x = simp products at (mul-le-mul_right d'' h) in
    let y = simp products at (mul-le-mul_right d k) in
    le_of_mul-le-mul_right {k = d'} (simp products (omega arith)) D

pub le-trans-float : (x y z : Float) → T (le x y) → T (le y z) → T (le x z)
le-trans-float nan y z h k = absurd (unfold le in h)
le-trans-float (inf s) nan z h k = absurd (le-nan (inf s) h)
le-trans-float (inf s) (inf t) nan h k = absurd (le-nan (inf t) k)
le-trans-float (inf s) (fin t n d) nan h k = absurd (le-nan (fin t n d) k)
le-trans-float (fin s m e) nan z h k = absurd (le-nan (fin s m e) h)
le-trans-float (fin s m e) (inf t) nan h k = absurd (le-nan (inf t) k)
le-trans-float (fin s m e) (fin t n d) nan h k = absurd (le-nan (fin t n d) k)
le-trans-float (inf false) (inf false) (inf u) h k = k
le-trans-float (inf false) (inf true) (inf u) h k = absurd (unfold le in h)
le-trans-float (inf true) (inf t) (inf true) h k = unfold le in tt
le-trans-float (inf true) (inf t) (inf false) h k = unfold le in tt
le-trans-float (inf false) (inf false) (fin u o b) h k = k
le-trans-float (inf false) (inf true) (fin u o b) h k = absurd (unfold le in h)
le-trans-float (inf true) (inf t) (fin u o b) h k = unfold le in tt
le-trans-float (inf false) (fin t n d) (inf u) h k = absurd (unfold le in h)
le-trans-float (inf true) (fin t n d) (inf true) h k = unfold le in tt
le-trans-float (inf true) (fin t n d) (inf false) h k = unfold le in tt
le-trans-float (inf false) (fin t n d) (fin u o b) h k = absurd (unfold le in h)
le-trans-float (inf true) (fin t n d) (fin u o b) h k = unfold le in tt
le-trans-float (fin s m e) (inf true) (inf u) h k = absurd (unfold le in h)
le-trans-float (fin s m e) (inf false) (inf true) h k = absurd (unfold le in k)
le-trans-float (fin s m e) (inf false) (inf false) h k = unfold le in tt
le-trans-float (fin s m e) (inf true) (fin u o b) h k = absurd (unfold le in h)
le-trans-float (fin s m e) (inf false) (fin u o b) h k = absurd (unfold le in k)
le-trans-float (fin s m e) (fin t n d) (inf true) h k = absurd (unfold le in k)
le-trans-float (fin s m e) (fin t n d) (inf false) h k = unfold le in tt
le-trans-float (fin s m e) (fin t n d) (fin u o b) h k =
    let x = fin s m e in
    let y = fin t n d in
    let z = fin u o b in
    cross→le x z tt tt (cross-trans (plus x) (less x) (den x) (plus y) (less y) (den y) (plus z) (less z) (den z) (den_pos y) (le→cross x y tt tt h) (le→cross y z tt tt k))

-- ---- `neg` turns the order round
pub neg-le : (x y : Float) → T (le x y) → T (le (neg y) (neg x))
unfolding neg
neg-le nan y h = absurd (unfold le in h)
neg-le (inf s) nan h = absurd (le-nan (inf s) h)
neg-le (fin s m e) nan h = absurd (le-nan (fin s m e) h)
neg-le (inf true) (inf true) h = unfold le in tt
neg-le (inf true) (inf false) h = unfold le in tt
neg-le (inf false) (inf true) h = absurd (unfold le in h)
neg-le (inf false) (inf false) h = unfold le in tt
neg-le (inf true) (fin t n d) h = unfold le in tt
neg-le (inf false) (fin t n d) h = absurd (unfold le in h)
neg-le (fin s m e) (inf true) h = absurd (unfold le in h)
neg-le (fin s m e) (inf false) h = unfold le in tt
neg-le (fin true m e) (fin true n d) h = let k = le→cross (fin true m e) (fin true n d) tt tt h in cross→le (fin false n d) (fin false m e) tt tt (omega arith)
neg-le (fin true m e) (fin false n d) h = let k = le→cross (fin true m e) (fin false n d) tt tt h in cross→le (fin true n d) (fin false m e) tt tt (omega arith)
neg-le (fin false m e) (fin true n d) h = let k = le→cross (fin false m e) (fin true n d) tt tt h in cross→le (fin false n d) (fin true m e) tt tt (omega arith)
neg-le (fin false m e) (fin false n d) h = let k = le→cross (fin false m e) (fin false n d) tt tt h in cross→le (fin true n d) (fin true m e) tt tt (omega arith)

-- ---- what lies between finite values is finite
pub between : (lo z hi : Float) → T (finite lo) → T (finite hi) → T (le lo z) → T (le z hi) → T (finite z)
unfolding le
between nan z hi p q h k = absurd p
between (inf s) z hi p q h k = absurd p
between (fin s m e) nan hi p q h k = absurd h
between (fin s m e) (fin t n d) hi p q h k = tt
between (fin s m e) (inf true) hi p q h k = absurd h
between (fin s m e) (inf false) nan p q h k = absurd q
between (fin s m e) (inf false) (inf u) p q h k = absurd q
between (fin s m e) (inf false) (fin u o b) p q h k = absurd k

pub neg-finite : (x : Float) → T (finite x) → T (finite (neg x))
unfolding neg
neg-finite nan p = p
neg-finite (inf s) p = p
neg-finite (fin s m e) p = tt

pub neg-val : (x : Float) (p n c : ℕ) → Val x p n c → Val (neg x) n p c
unfolding neg
neg-val nan p n c v = absurd v.0
neg-val (inf s) p n c v = absurd v.0
neg-val (fin false m e) p n c v = (tt, let k = v.1 in omega arith)
neg-val (fin true m e) p n c v = (tt, let k = v.1 in omega arith)

-- ---- a number is at most itself
pub le-refl-float : (x : Float) → T (number x) → T (le x x)
le-refl-float nan p = absurd p
le-refl-float (inf true) p = unfold le in tt
le-refl-float (inf false) p = unfold le in tt
le-refl-float (fin s m e) p = cross→le (fin s m e) (fin s m e) tt tt (omega arith)

pub neg-number : (x : Float) → T (number x) → T (number (neg x))
unfolding neg
neg-number (inf s) p = tt
neg-number (fin s m e) p = tt
neg-number nan p = elim p [ ]

-- ---- -l ≤ l, for an l from 0 up
pub minus-le : (l : Float) → T (finite l) → T (le zero₀ l) → T (le (neg l) l)
unfolding neg
minus-le (fin true m e) p h =
    let k = le→cross zero₀ (fin true m e) tt tt h in
    let g = mul-le-mul_right (down e) k in
    cross→le (fin false m e) (fin true m e) tt tt (omega arith)
minus-le (fin false m e) p h = cross→le (fin true m e) (fin false m e) tt tt (omega arith)
minus-le nan p h = elim p [ ]
minus-le (inf _) p h = elim p [ ]

-- ---- what an order rules out
pub not-below : (x y : Float) → T (finite x) → T (finite y) → T (le y x) → T (lt x y) → ⊥
not-below x y p q h g = let a = le→cross y x q p h in let b = lt→cross x y p q g in lt_irrefl 0 (omega arith)

-- what is not above is not below, whatever the two are
pub le→not-lt : (x y : Float) → T (le x y) → lt y x ≡ false
le→not-lt nan y h = absurd (unfold le in h)
le→not-lt (inf s) nan h = unfold lt in refl
le→not-lt (fin s m e) nan h = unfold lt in refl
le→not-lt (inf true) (inf true) h = unfold lt in refl
le→not-lt (inf true) (inf false) h = unfold lt in refl
le→not-lt (inf false) (inf true) h = absurd (unfold le in h)
le→not-lt (inf false) (inf false) h = unfold lt in refl
le→not-lt (inf true) (fin t n d) h = unfold lt in refl
le→not-lt (inf false) (fin t n d) h = absurd (unfold le in h)
le→not-lt (fin s m e) (inf true) h = absurd (unfold le in h)
le→not-lt (fin s m e) (inf false) h = unfold lt in refl
le→not-lt (fin s m e) (fin t n d) h = is_false (lt (fin t n d) (fin s m e)) (not_T (lt (fin t n d) (fin s m e)) (not-below (fin t n d) (fin s m e) tt tt h))

pub lt→le : (x y : Float) → T (lt x y) → T (le x y)
unfolding le
lt→le x y h = or_left (lt x y) (eq x y) h

-- ---- strictly between -y and y a value is finite, and where y is 2 ^ k it is below that in size
pub inside-finite : (y v : Float) → T (finite y) → T (lt (neg y) v) → T (lt v y) → T (finite v)
inside-finite y v p h k = between (neg y) v y (neg-finite y p) p (lt→le (neg y) v h) (lt→le v y k)

pub inside-size : (k : ℕ) (v : Float) → T (lt (neg (fin false 1 (pos k))) v) → T (lt v (fin false 1 (pos k))) → (plus v < less v + 2 ^ k * den v) × (less v < plus v + 2 ^ k * den v)
unfolding neg
inside-size k v h l =
    let p = inside-finite (fin false 1 (pos k)) v tt h l in
    let a = lt→cross (fin true 1 (pos k)) v tt p h in
    let b = lt→cross v (fin false 1 (pos k)) p tt l in
    (omega arith, omega arith)

-- ---- equal as numbers
eq→le : (x y : Float) → T (eq x y) → T (le x y)
unfolding le
eq→le x y h = or_right (lt x y) (eq x y) h

pub les→eq : (x y : Float) → T (finite x) → T (finite y) → T (le x y) → T (le y x) → T (eq x y)
unfolding le
les→eq x y p q h k = go (lt x y) (eq x y) (lt→cross x y p q) h
  where
    go : (a b : Bool) → (T a → plus x * den y + less y * den x < plus y * den x + less x * den y) → T (a || b) → T b
    go false b g t = t
    go true b g t = let u = g tt in let v = le→cross y x q p k in absurd (lt_irrefl 0 (omega arith))

pub eq→cross : (x y : Float) → T (finite x) → T (finite y) → T (eq x y) → plus x * den y + less y * den x ≡ plus y * den x + less x * den y
eq→cross x y p q h =
    let a = le→cross x y p q (eq→le x y h) in
    let b = le→cross y x q p (eq→le y x (subst T (eq_swap x y) h)) in
    omega arith

-- ---- the same difference, written in another way
pub val_same : (x : Float) (p n c p' n' : ℕ) → p + n' ≡ p' + n → Val x p n c → Val x p' n' c
val_same x p n c p' n' e v = (v.0, shift (plus x) (less x) (den x) v.1)
  where
    shift : (P N d : ℕ) → P * c + n * d ≡ p * d + N * c → P * c + n' * d ≡ p' * d + N * c
    shift P N d h = let g = ap (λ (z : ℕ). z * d) e in omega arith
