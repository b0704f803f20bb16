-- Comparisons and tests give the same answer at floats that are alike, and the turned-round one at their opposites.
-- Assumes nothing.
use mathlib.Core.Path.{◌≡◌, refl, sym, ap, ◌∙◌}
use Prim.Native.Nat.{ℕ, zero, suc, ◌*◌, ◌<◌}
use native.Mathlib.Nat.{zero-mul, zero-add, add_comm, mul-pos}
use native.Mathlib.Omega.{arith}
use mathlib.Core.Bool.{Bool, true, false, not, ◌&&◌, ◌||◌, beq, cond, or-true, and-true, not-not}
use lib.Dec.{T, ltb, eqb, ltb→lt, lt→ltb, eqb→eq, eqb_refl, eqb-suc-zero, eqb-zero-suc}
use lib.IntN.{ℤ, pos}
use lib.Ieee.{Float, nan, inf, fin, up, down, below, level, neg, lt, eq, is_nan}
use lib.Ieee.Fits.{up_pos, down_pos, eq→eqb}
use lib.Ieee.Bits.{is_true}
use lib.Ieee.Positive.{above, first_pos}
use lib.Ieee.Scale.{finite}
use Rattle.ieee.specs.Alike.{plain, signed, Like, Alike, same_number}
use Rattle.ieee.proofs.Laws.Test.{same_test, cond-related}
use Rattle.ieee.proofs.Laws.Like.{plain-neg, like-refl}

ltb-scale : (n u v : ℕ) → 0 < u → 0 < v → ltb 0 (n * u * v) ≡ ltb 0 n
ltb-scale n u v P Q =
    same_test (ltb 0 (n * u * v)) (ltb 0 n) (λ (t : T (ltb 0 (n * u * v))). lt→ltb 0 n (first_pos n u (first_pos (n * u) v (ltb→lt 0 (n * u * v) t))))
    (λ (t : T (ltb 0 n)). lt→ltb 0 (n * u * v) (mul-pos (mul-pos (ltb→lt 0 n t) P) Q))

ltb-zero : (n : ℕ) → ltb n 0 ≡ false
ltb-zero n = same_test (ltb n 0) false (λ (t : T (ltb n 0)). omega (arith, ltb→lt n 0 t)) (λ (t : ⊥). absurd t)

-- ---- zero < y
lt-fin : (s t : Bool) (m n : ℕ) (e d : ℤ) → lt (fin s m e) (fin t n d) ≡ below s (m * up e * down d) t (n * up d * down e)
unfolding lt
lt-fin s t m n e d = refl

below-zero : (s t : Bool) (n u v : ℕ) → 0 < u → 0 < v → (d : ℤ) → below s 0 t (n * u * v) ≡ above (fin t n d)
below-zero true true n u v P Q d = ltb-zero (n * u * v)
below-zero true false n u v P Q d = rw zero-add (ltb-scale n u v P Q)
below-zero false true n u v P Q d = refl
below-zero false false n u v P Q d = ltb-scale n u v P Q

pub zero-lt : (s : Bool) (e : ℤ) (y : Float) → lt (fin s zero e) y ≡ above y
unfolding lt
zero-lt s e nan = refl
zero-lt s e (inf t) = refl
zero-lt s e (fin t n d) = lt-fin s t zero n e d ∙ simp zero-mul (below-zero s t n (up d) (down e) (up_pos d) (down_pos e) d)

lt-left : (x y : Float) → lt (plain x) y ≡ lt x y
unfolding plain lt
lt-left nan y = refl
lt-left (inf s) y = refl
lt-left (fin s zero e) y = zero-lt false (pos 0) y ∙ sym (zero-lt s e y)
lt-left (fin s (suc m) e) y = refl

-- -x < -y where y < x
below-negs : (s t : Bool) (a b : ℕ) → below (not s) a (not t) b ≡ below t b s a
below-negs true true a b = refl
below-negs true false a b = refl
below-negs false true a b = ap (ltb 0) (add_comm a b)
below-negs false false a b = refl

infs-negs : (s t : Bool) → (not s && not (not t)) ≡ (t && not s)
infs-negs true true = refl
infs-negs true false = refl
infs-negs false true = refl
infs-negs false false = refl

pub lt-negs : (x y : Float) → lt (neg x) (neg y) ≡ lt y x
unfolding lt neg
lt-negs nan nan = refl
lt-negs nan (inf t) = refl
lt-negs nan (fin t n d) = refl
lt-negs (inf s) nan = refl
lt-negs (inf s) (inf t) = infs-negs s t
lt-negs (inf s) (fin t n d) = refl
lt-negs (fin s m e) nan = refl
lt-negs (fin s m e) (inf t) = not-not t
lt-negs (fin s m e) (fin t n d) = below-negs s t (m * up e * down d) (n * up d * down e)

lt-right : (x y : Float) → lt x (plain y) ≡ lt x y
lt-right x y = cc (lt-negs (plain y) x, lt-negs y x, lt-left (neg (plain y)) (neg x), lt-left (neg y) (neg x), plain-neg y)

-- ---- equality
not-zero : (k : ℕ) → 0 < k → eqb 0 k ≡ false
not-zero zero h = absurd (omega arith)
not-zero (suc k) h = eqb-zero-suc k

eqb-scale : (n u v : ℕ) → 0 < u → 0 < v → eqb 0 (n * u * v) ≡ eqb n 0
eqb-scale zero u v P Q = simp zero-mul
eqb-scale (suc n) u v P Q = not-zero (suc n * u * v) (mul-pos (mul-pos (omega arith) P) Q) ∙ sym (eqb-suc-zero n)

eq-fin : (s t : Bool) (m n : ℕ) (e d : ℤ) → eq (fin s m e) (fin t n d) ≡ level s (m * up e * down d) t (n * up d * down e)
unfolding eq
eq-fin s t m n e d = refl

unfoldable pub is_zero : Float → Bool
is_zero nan = false
is_zero (inf s) = false
is_zero (fin s m e) = eqb m 0

pub eq-zero : (s : Bool) (e : ℤ) (y : Float) → eq (fin s zero e) y ≡ is_zero y
unfolding eq is_zero
eq-zero s e nan = refl
eq-zero s e (inf t) = refl
eq-zero s e (fin t n d) = eq-fin s t zero n e d ∙ simp (zero-mul, or-true, and-true) (eqb-scale n (up d) (down e) (up_pos d) (down_pos e))

eq-left : (x y : Float) → eq (plain x) y ≡ eq x y
unfolding plain eq
eq-left nan y = refl
eq-left (inf s) y = refl
eq-left (fin s zero e) y = eq-zero false (pos 0) y ∙ sym (eq-zero s e y)
eq-left (fin s (suc m) e) y = refl

beq-swap : (s t : Bool) → beq s t ≡ beq t s
beq-swap true true = refl
beq-swap true false = refl
beq-swap false true = refl
beq-swap false false = refl

eqb_swap : (a b : ℕ) → eqb a b ≡ eqb b a
eqb_swap a b = same_test (eqb a b) (eqb b a) (λ (t : T (eqb a b)). eq→eqb (sym (eqb→eq a b t))) (λ (t : T (eqb b a)). eq→eqb (sym (eqb→eq b a t)))

level-swap : (s t : Bool) (a b : ℕ) → level s a t b ≡ level t b s a
level-swap s t a b = rw (eqb_swap b a, beq-swap t s) (go (eqb a b) (eqb→eq a b))
  where
    go : (p : Bool) → (T p → a ≡ b) → (p && (beq s t || eqb a 0)) ≡ (p && (beq s t || eqb b 0))
    go true h = rw (h tt)
    go false h = refl

beq-nots : (s t : Bool) → beq (not s) (not t) ≡ beq s t
beq-nots true true = refl
beq-nots true false = refl
beq-nots false true = refl
beq-nots false false = refl

pub eq_swap : (x y : Float) → eq x y ≡ eq y x
unfolding eq
eq_swap nan nan = refl
eq_swap nan (inf t) = refl
eq_swap nan (fin t n d) = refl
eq_swap (inf s) nan = refl
eq_swap (inf s) (inf t) = beq-swap s t
eq_swap (inf s) (fin t n d) = refl
eq_swap (fin s m e) nan = refl
eq_swap (fin s m e) (inf t) = refl
eq_swap (fin s m e) (fin t n d) = level-swap s t (m * up e * down d) (n * up d * down e)

pub eq-negs : (x y : Float) → eq (neg x) (neg y) ≡ eq x y
unfolding eq neg
eq-negs nan y = refl
eq-negs (inf s) nan = refl
eq-negs (inf s) (inf t) = beq-nots s t
eq-negs (inf s) (fin t n d) = refl
eq-negs (fin s m e) nan = refl
eq-negs (fin s m e) (inf t) = refl
eq-negs (fin s m e) (fin t n d) = rw (beq-nots s t)

-- ---- the laws
lt-plain : (x y : Float) → lt (plain x) (plain y) ≡ lt x y
lt-plain x y = lt-left x (plain y) ∙ lt-right x y

eq-plain : (x y : Float) → eq (plain x) (plain y) ≡ eq x y
eq-plain x y = cc (eq-left x (plain y), eq_swap x (plain y), eq-left y x, eq_swap x y)

pub like-lt : {x x' y y' : Float} → Like false x x' → Like false y y' → lt x y ≡ lt x' y'
unfolding signed
like-lt {x} {x'} {y} {y'} p q = cc (lt-plain x y, lt-plain x' y', p.same, q.same)

-- turned round
pub like-gt : {x x' y y' : Float} → Like true x x' → Like true y y' → lt x y ≡ lt y' x'
unfolding signed
like-gt {x} {x'} {y} {y'} p q = cc (lt-plain x y, lt-plain (neg x') (neg y'), p.same, q.same, lt-negs x' y')

pub like-eq : {s : Bool} {x x' y y' : Float} → Like s x x' → Like s y y' → eq x y ≡ eq x' y'
unfolding signed
like-eq {s = false} {x} {x'} {y} {y'} p q = cc (eq-plain x y, eq-plain x' y', p.same, q.same)
like-eq {s = true} {x} {x'} {y} {y'} p q = cc (eq-plain x y, eq-plain (neg x') (neg y'), p.same, q.same, eq-negs x' y')

nan-plain : (x : Float) → is_nan (plain x) ≡ is_nan x
unfolding is_nan plain
nan-plain nan = refl
nan-plain (inf s) = refl
nan-plain (fin s zero e) = refl
nan-plain (fin s (suc m) e) = refl

nan-signed : (s : Bool) (x : Float) → is_nan (signed s x) ≡ is_nan x
unfolding is_nan signed neg
nan-signed false x = refl
nan-signed true nan = refl
nan-signed true (inf s) = refl
nan-signed true (fin s m e) = refl

finite-plain : (x : Float) → finite (plain x) ≡ finite x
unfolding plain
finite-plain nan = refl
finite-plain (inf s) = refl
finite-plain (fin s zero e) = refl
finite-plain (fin s (suc m) e) = refl

finite-signed : (s : Bool) (x : Float) → finite (signed s x) ≡ finite x
unfolding signed neg
finite-signed false x = refl
finite-signed true nan = refl
finite-signed true (inf s) = refl
finite-signed true (fin s m e) = refl

pub like-nan : {s : Bool} {x y : Float} → Like s x y → is_nan x ≡ is_nan y
like-nan {s} {x} {y} p = cc (nan-plain x, p.same, nan-plain (signed s y), nan-signed s y)

pub like-finite : {s : Bool} {x y : Float} → Like s x y → finite x ≡ finite y
like-finite {s} {x} {y} p = cc (finite-plain x, p.same, finite-plain (signed s y), finite-signed s y)

-- ---- a choice between floats by the same test
pub like-cond : {s p q : Bool} {x x' y y' : Float} → p ≡ q → Like s x x' → Like s y y' → Like s (cond p x y) (cond q x' y')
like-cond {s} e h k = cond-related (Like s) e h k

-- ---- `Alike` gives the test `same_number` (N10)
own : (y : Float) → T (same_number y y)
unfolding eq is_nan
own nan = tt
own (inf true) = tt
own (inf false) = tt
own (fin true m e) = rw (is_true (eqb (m * up e * down e) (m * up e * down e)) (eqb_refl (m * up e * down e))) tt
own (fin false m e) = rw (is_true (eqb (m * up e * down e) (m * up e * down e)) (eqb_refl (m * up e * down e))) tt

pub alike→same : {x y : Float} → Alike x y → T (same_number x y)
alike→same {x} {y} p = rw (like-eq p (like-refl y), like-nan p) (own y)

-- ---- against zero
pub lt-zero : (s : Bool) (e : ℤ) (x : Float) → lt x (fin s zero e) ≡ above (neg x)
unfolding neg
lt-zero s e x = sym (lt-negs (fin s zero e) x) ∙ zero-lt (not s) e (neg x)

pub not-both : (x : Float) → T (above x) → T (above (neg x)) → ⊥
unfolding neg
not-both nan p q = p
not-both (inf true) p q = p
not-both (inf false) p q = q
not-both (fin true m e) p q = p
not-both (fin false m e) p q = q
