-- Laws that hold of the floats as data, zeros' signs included: sums and products commute, and a sign goes through
-- a product and a quotient. Assumes nothing.
use mathlib.Core.Path.{◌≡◌, refl, ap}
use Prim.Native.Nat.{ℕ, ◌-◌, ◌*◌}
use native.Mathlib.Nat.{mul_comm, add_comm}
use native.Mathlib.Omega.{arith}
use mathlib.Core.Bool.{Bool, true, false, not, ◌&&◌, beq, cond, not-not}
use lib.Dec.{T, ltb, eqb, ltb→lt, nltb→le}
use lib.IntN.{pos}
use lib.Ieee.{Float, nan, inf, fin, Format, up, down, unlike, round, sum, neg, add, sub, mul, div}
use Rattle.ieee.proofs.Laws.Round.{round-neg}

pub neg-neg : (x : Float) → neg (neg x) ≡ x
unfolding neg
neg-neg nan = refl
neg-neg (inf s) = ap inf (not-not s)
neg-neg (fin s m e) = ap (λ (t : Bool). fin t m e) (not-not s)

-- ---- products
unlike-comm : (s t : Bool) → unlike s t ≡ unlike t s
unlike-comm true true = refl
unlike-comm true false = refl
unlike-comm false true = refl
unlike-comm false false = refl

pub mul-swap : (f : Format) (x y : Float) → mul f x y ≡ mul f y x
unfolding mul
mul-swap f nan nan = refl
mul-swap f nan (inf t) = refl
mul-swap f nan (fin t n d) = refl
mul-swap f (inf s) nan = refl
mul-swap f (inf s) (inf t) = ap inf (unlike-comm s t)
mul-swap f (inf s) (fin t n d) = rw (unlike-comm s t)
mul-swap f (fin s m e) nan = refl
mul-swap f (fin s m e) (inf t) = rw (unlike-comm s t)
mul-swap f (fin s m e) (fin t n d) = rw (unlike-comm s t, mul_comm (m * up e), mul_comm (down e))

not_left : (s t : Bool) → unlike (not s) t ≡ not (unlike s t)
not_left true true = refl
not_left true false = refl
not_left false true = refl
not_left false false = refl

neg-cond : (b : Bool) (s : Bool) → cond b nan (inf (not s)) ≡ neg (cond b nan (inf s))
unfolding neg
neg-cond true s = refl
neg-cond false s = refl

pub mul-neg : (f : Format) (x y : Float) → mul f (neg x) y ≡ neg (mul f x y)
unfolding mul neg
mul-neg f nan y = refl
mul-neg f (inf s) nan = refl
mul-neg f (inf s) (inf t) = ap inf (not_left s t)
mul-neg f (inf s) (fin t n d) = rw (not_left s t) (neg-cond (eqb n 0) (unlike s t))
mul-neg f (fin s m e) nan = refl
mul-neg f (fin s m e) (inf t) = rw (not_left s t) (neg-cond (eqb m 0) (unlike s t))
mul-neg f (fin s m e) (fin t n d) = rw (not_left s t) (round-neg f (unlike s t) (m * up e * (n * up d)) (down e * down d))

pub mul-neg-right : (f : Format) (x y : Float) → mul f x (neg y) ≡ neg (mul f x y)
mul-neg-right f x y = cc (mul-swap f x (neg y), mul-neg f y x, mul-swap f y x)

pub mul-negs : (f : Format) (x y : Float) → mul f (neg x) (neg y) ≡ mul f x y
mul-negs f x y = cc (mul-neg f x (neg y), mul-neg-right f x y, neg-neg (mul f x y))

-- ---- quotients
neg-cond₃ : (a b s : Bool) (x : Float) → cond a (cond b nan (inf (not s))) (neg x) ≡ neg (cond a (cond b nan (inf s)) x)
unfolding neg
neg-cond₃ true true s x = refl
neg-cond₃ true false s x = refl
neg-cond₃ false b s x = refl

pub div-neg : (f : Format) (x y : Float) → div f (neg x) y ≡ neg (div f x y)
unfolding div neg
div-neg f nan y = refl
div-neg f (inf s) nan = refl
div-neg f (inf s) (inf t) = refl
div-neg f (inf s) (fin t n d) = ap inf (not_left s t)
div-neg f (fin s m e) nan = refl
div-neg f (fin s m e) (inf t) = ap (λ (u : Bool). fin u 0 (pos 0)) (not_left s t)
div-neg f (fin s m e) (fin t n d) = rw (not_left s t, round-neg f (unlike s t) (m * up e * down d)) (neg-cond₃ (eqb n 0) (eqb m 0) (unlike s t) (round f (unlike s t) (m * up e * down d) (n * up d * down e)))

-- ---- sums
no_less : (a b : ℕ) → T (not (ltb a b)) → T (not (ltb b a)) → a - b ≡ b - a
no_less a b p q = omega (arith, nltb→le a b p, nltb→le b a q)

never : (a b : ℕ) → T (ltb a b) → T (ltb b a) → ⊥
never a b p q = omega (arith, ltb→lt a b p, ltb→lt b a q)

-- the two ways round of a sum of two signs, p and q being whether a < b and b < a
sum-pick : (f : Format) (s t : Bool) (a b c : ℕ) (p q : Bool) → (T (not p) → T (not q) → a - b ≡ b - a) → (T p → T q → ⊥)
    → cond p (round f t (b - a) c) (round f (s && q) (a - b) c) ≡ cond q (round f s (a - b) c) (round f (t && p) (b - a) c)
sum-pick f s t a b c true true h k = absurd (k tt tt)
sum-pick f s true a b c true false h k = refl
sum-pick f s false a b c true false h k = refl
sum-pick f true t a b c false true h k = refl
sum-pick f false t a b c false true h k = refl
sum-pick f true true a b c false false h k = rw (h tt tt)
sum-pick f true false a b c false false h k = rw (h tt tt)
sum-pick f false true a b c false false h k = rw (h tt tt)
sum-pick f false false a b c false false h k = rw (h tt tt)

sum-swap : (f : Format) (s t : Bool) (a b c : ℕ) → sum f s a t b c ≡ sum f t b s a c
unfolding sum
sum-swap f true true a b c = rw (add_comm a b)
sum-swap f false false a b c = rw (add_comm a b)
sum-swap f true false a b c = sum-pick f true false a b c (ltb a b) (ltb b a) (no_less a b) (never a b)
sum-swap f false true a b c = sum-pick f false true a b c (ltb a b) (ltb b a) (no_less a b) (never a b)

infs-swap : (s t : Bool) → cond (beq s t) (inf s) nan ≡ cond (beq t s) (inf t) nan
infs-swap true true = refl
infs-swap true false = refl
infs-swap false true = refl
infs-swap false false = refl

pub add-swap : (f : Format) (x y : Float) → add f x y ≡ add f y x
unfolding add
add-swap f nan nan = refl
add-swap f nan (inf t) = refl
add-swap f nan (fin t n d) = refl
add-swap f (inf s) nan = refl
add-swap f (inf s) (inf t) = infs-swap s t
add-swap f (inf s) (fin t n d) = refl
add-swap f (fin s m e) nan = refl
add-swap f (fin s m e) (inf t) = refl
add-swap f (fin s m e) (fin t n d) = rw (mul_comm (down e) (down d)) (sum-swap f s t (m * up e * down d) (n * up d * down e) (down d * down e))

pub sub_is : (f : Format) (x y : Float) → sub f x y ≡ add f x (neg y)
unfolding sub
sub_is f x y = refl
