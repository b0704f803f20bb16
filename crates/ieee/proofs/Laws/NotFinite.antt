-- A sum, a difference or a product that is finite has finite terms, and a quotient of two values that are not finite
-- is NaN. And lower bounds of the terms give one of the result, so that a result whose bound overflows is not finite.
-- Assumes nothing.
use mathlib.Core.Path.{◌≡◌, refl, subst}
use Prim.Native.Nat.{ℕ}
use native.Mathlib.Omega.{arith}
use mathlib.Core.Bool.{Bool, true, false, beq, cond}
use lib.Dec.{T, eqb}
use lib.IntN.{ℤ}
use lib.Ieee.{Float, nan, inf, fin, Format, unlike, neg, add, sub, mul, div, le}
use lib.Ieee.Scale.{finite}
use Rattle.ieee.specs.Notation.{zero₀}
use Rattle.ieee.specs.Bounds.{Reaches}
use Rattle.ieee.proofs.Laws.Algebra.{add-swap, mul-swap, mul-negs, sub_is, neg-neg}
use Rattle.ieee.proofs.Laws.Order.{cross→le, le-trans-float, neg-finite}
use Rattle.ieee.proofs.Laws.Mono.{add-mono, sub-mono, mul_mono, mul-nonneg}

-- ---- what is finite comes of finite values
-- an infinity or a NaN, as the sum of two infinities is
pub inf-or-nan : (b s : Bool) → T (finite (cond b (inf s) nan)) → ⊥
inf-or-nan true s h = h
inf-or-nan false s h = h

first-term : (f : Format) (x y : Float) → T (finite (add f x y)) → T (finite x)
unfolding add
first-term f nan y h = h
first-term f (inf s) nan h = h
first-term f (inf s) (inf t) h = inf-or-nan (beq s t) s h
first-term f (inf s) (fin t n d) h = h
first-term f (fin s m e) y h = tt

pub finite-sum : (f : Format) (x y : Float) → T (finite (add f x y)) → T (finite x) × T (finite y)
finite-sum f x y h = (first-term f x y h, first-term f y x (subst (λ (z : Float). T (finite z)) (add-swap f x y) h))

pub finite-difference : (f : Format) (x y : Float) → T (finite (sub f x y)) → T (finite x) × T (finite y)
finite-difference f x y h =
    let k = finite-sum f x (neg y) (subst (λ (z : Float). T (finite z)) (sub_is f x y) h) in
    (k.0, subst (λ (z : Float). T (finite z)) (neg-neg y) (neg-finite (neg y) k.1))

nan-or-inf : (b s : Bool) → T (finite (cond b nan (inf s))) → ⊥
nan-or-inf true s h = h
nan-or-inf false s h = h

first-factor : (f : Format) (x y : Float) → T (finite (mul f x y)) → T (finite x)
unfolding mul
first-factor f nan y h = h
first-factor f (inf s) nan h = h
first-factor f (inf s) (inf t) h = h
first-factor f (inf s) (fin t n d) h = nan-or-inf (eqb n 0) (unlike s t) h
first-factor f (fin s m e) y h = tt

pub finite-product : (f : Format) (x y : Float) → T (finite (mul f x y)) → T (finite x) × T (finite y)
finite-product f x y h = (first-factor f x y h, first-factor f y x (subst (λ (z : Float). T (finite z)) (mul-swap f x y) h))

pub quotient-nan : (f : Format) (x y : Float) → (T (finite x) → ⊥) → (T (finite y) → ⊥) → div f x y ≡ nan
unfolding div
quotient-nan f nan y p q = refl
quotient-nan f (inf s) nan p q = refl
quotient-nan f (inf s) (inf t) p q = refl
quotient-nan f (inf s) (fin t n d) p q = absurd (q tt)
quotient-nan f (fin s m e) y p q = absurd (p tt)

-- ---- lower bounds
pub sum-at-least : (f : Format) (c d x y : Float) → T (finite c) → T (finite d) → Reaches c x → Reaches d y → Reaches (add f c d) (add f x y)
sum-at-least f c d x y C D a b h = let k = finite-sum f x y h in add-mono f c x d y C k.0 D k.1 (a k.0) (b k.1)

pub difference-at-least : (f : Format) (c d x y : Float) → T (finite c) → T (finite d) → Reaches c x → T (le y d) → Reaches (sub f c d) (sub f x y)
difference-at-least f c d x y C D a b h = let k = finite-difference f x y h in sub-mono f c x d y C k.0 D k.1 (a k.0) b

from_zero : (m : ℕ) (e : ℤ) → T (le zero₀ (fin false m e))
from_zero m e = cross→le zero₀ (fin false m e) tt tt (omega arith)

pub product-at-least : (f : Format) (m n : ℕ) (e d : ℤ) (x y : Float) → Reaches (fin false m e) x → Reaches (fin false n d) y → Reaches (mul f (fin false m e) (fin false n d)) (mul f x y)
product-at-least f m n e d x y a b h =
    let k = finite-product f x y h in
    let c = fin false m e in
    mul_mono f c x (fin false n d) y tt k.0 tt k.1 (le-trans-float zero₀ c x (from_zero m e) (a k.0)) (from_zero n d) (a k.0) (b k.1)

-- a square has no minus sign
pub square-at-least : (f : Format) (x : Float) → Reaches zero₀ (mul f x x)
unfolding neg
square-at-least f x h = go x (finite-product f x x h).0
  where
    plain : (m : ℕ) (e : ℤ) → T (le zero₀ (mul f (fin false m e) (fin false m e)))
    plain m e = mul-nonneg f (fin false m e) (fin false m e) tt tt (from_zero m e) (from_zero m e)

    go : (x : Float) → T (finite x) → T (le zero₀ (mul f x x))
    go (fin false m e) p = plain m e
    go (fin true m e) p = rw (mul-negs f (fin false m e) (fin false m e)) (plain m e)
    go nan p = elim p [ ]
    go (inf _) p = elim p [ ]

-- what is at least an infinity
pub at-least-inf : (x : Float) → Reaches (inf false) x → T (finite x) → ⊥
unfolding le
at-least-inf (fin s m e) a h = a tt
at-least-inf nan a h = elim h [ ]
at-least-inf (inf _) a h = elim h [ ]
