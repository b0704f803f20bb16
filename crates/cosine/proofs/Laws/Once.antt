-- The nearest f32 is one: where any two numbers can be compared, as real numbers can, two floats nearest to y are the
-- same number. Assumes nothing.
use mathlib.Core.Path.{◌≡◌, subst}
use mathlib.Core.Logic.{◌⊎◌, inl, inr}
use native.Mathlib.Nat.{add_comm, mul_comm}
use lib.Dec.{T, not_T}
use lib.Ieee.{Float, lt, eq}
use Rattle.ieee.specs.Fraction.{Fraction, own}
use Rattle.ieee.proofs.Laws.Order.{not-lt→le, les→eq, finite_number}
use Rattle.cosine.specs.Cosine.{Numbers, whole, scaled, AtMost}
use Rattle.cosine.specs.Nearest.{middle, Nearest}

middle-swap : (q r : Fraction) → middle q r ≡ middle r q
middle-swap q r = simp (add_comm, mul_comm)

module _ (N : Numbers) (total : (a b : N.R) → N.le a b ⊎ N.le b a) (y : N.R) where
  not-below : (x z : Float) → Nearest N y x → Nearest N y z → ¬ (T (lt x z))
  not-below x z n m l =
      let c = middle (own x) (own z) in
      elim (total (whole N c.plus) (scaled N y c)) [
        | inl h ↦ n.below z m.held m.number l h
        | inr h ↦ m.above x n.held n.number l (subst (λ (d : Fraction). AtMost N y d) (middle-swap (own x) (own z)) h)
      ]

  pub nearest-once : (x z : Float) → Nearest N y x → Nearest N y z → T (eq x z)
  nearest-once x z n m =
      les→eq x z n.number m.number
      (not-lt→le z x (finite_number z m.number) (finite_number x n.number) (not_T (lt z x) (not-below z x m n)))
      (not-lt→le x z (finite_number x n.number) (finite_number z m.number) (not_T (lt x z) (not-below x z n m)))
