-- The sign: numbers alike have signs alike, and the opposite has the opposite sign. Assumes nothing.
use mathlib.Core.Bool.{Bool, true, false, cond}
use lib.Dec.{T}
use lib.IntN.{pos}
use lib.Ieee.{Float, neg, lt}
use Rattle.ieee.specs.Notation.{zero₀, one₀}
use Rattle.ieee.specs.Alike.{Like, Alike}
use Rattle.ieee.proofs.Laws.Like.{like-refl, like-sym, like-zero, like-minus}
use Rattle.ieee.proofs.Laws.Compare.{like-lt, like-gt, like-cond, zero-lt, lt-zero, not-both}
use Rattle.numbers.specs.Sign.{sign_of}

-- zero is its own opposite
opposite-zero : Like true zero₀ zero₀
opposite-zero = like-zero true false false (pos 0) (pos 0)

apart : (x : Float) → T (lt zero₀ x) → T (lt x zero₀) → ⊥
apart x h k = not-both x (rw (zero-lt false (pos 0) x) at h) (rw (lt-zero false (pos 0) x) at k)

-- two tests that change places choose opposite values
swapped-pick : {x y z : Float} (p q : Bool) → (T p → T q → ⊥) → Like true y x → Like true z z → Like true (cond q x (cond p y z)) (cond p x (cond q y z))
swapped-pick true true h a b = absurd (h tt tt)
swapped-pick true false h a b = a
swapped-pick false true h a b = like-sym a
swapped-pick false false h a b = b

pub sign-neg : (x : Float) → Like true (sign_of (neg x)) (sign_of x)
unfolding sign_of
sign-neg x = rw (like-gt opposite-zero (like-minus x), like-gt (like-minus x) opposite-zero) (swapped-pick (lt zero₀ x) (lt x zero₀) (apart x) (like-minus one₀) opposite-zero)

pub alike-sign : {x y : Float} → Alike x y → Alike (sign_of x) (sign_of y)
unfolding sign_of
alike-sign p = like-cond (like-lt (like-refl zero₀) p) (like-refl _) (like-cond (like-lt p (like-refl zero₀)) (like-refl _) (like-refl _))
