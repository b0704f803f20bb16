-- sign(x) × y is y for an x above 0, -y for one below, and 0 × y else. Assumes nothing.
use mathlib.Core.Path.{◌≡◌, refl, sym, ap, ◌∙◌}
use mathlib.Core.Bool.{Bool, true, false, cond}
use lib.Dec.{T}
use lib.Ieee.{Float, binary32, of_bits, neg, lt, fits}
use Rattle.ieee.specs.Notation.{zero₀, one₀, ◌⊗◌}
use Rattle.ieee.proofs.Laws.Algebra.{mul-neg}
use Rattle.ieee.proofs.Laws.Test.{yes}
use Rattle.ieee.proofs.Laws.Order.{lt→le, le→not-lt}
use Rattle.ieee.proofs.Laws.Exact.{one-times}
use Rattle.numbers.specs.Sign.{sign_of}
use Rattle.constellations.specs.Octant.{size_of}

-- by the two tests
abbrev by : Bool → Bool → Float → Float
by above below y = cond above one₀ (cond below (neg one₀) zero₀) ⊗ y

sign-by : (x y : Float) {a b : Bool} → lt zero₀ x ≡ a → lt x zero₀ ≡ b → by a b y ≡ sign_of x ⊗ y
unfolding sign_of of_bits
sign-by x y p q = λ j. by (sym p j) (sym q j) y

pub sign_above : (x y : Float) → T (fits binary32 y) → lt zero₀ x ≡ true → y ≡ sign_of x ⊗ y
sign_above x y t p = sym (one-times binary32 y t) ∙ sign-by x y p refl

pub sign_below : (x y : Float) → T (fits binary32 y) → lt zero₀ x ≡ false → lt x zero₀ ≡ true → neg y ≡ sign_of x ⊗ y
sign_below x y t p q = ap neg (sym (one-times binary32 y t)) ∙ sym (mul-neg binary32 one₀ y) ∙ sign-by x y p q

pub sign-none : (x y : Float) → lt zero₀ x ≡ false → lt x zero₀ ≡ false → zero₀ ⊗ y ≡ sign_of x ⊗ y
sign-none x y p q = sign-by x y p q

pub above-not-below : (x : Float) → lt zero₀ x ≡ true → lt x zero₀ ≡ true → ⊥
above-not-below x p q = yes (sym (le→not-lt zero₀ x (lt→le zero₀ x (yes p))) ∙ q)

-- of an x whose size lies above 0 the test below 0 alone decides
pub sign-sized : (x y : Float) → T (fits binary32 y) → lt zero₀ (size_of x) ≡ true → cond (lt x zero₀) (neg y) y ≡ sign_of x ⊗ y
unfolding size_of
sign-sized x y t p = go (lt x zero₀) refl p
  where
    go : (b : Bool) → lt x zero₀ ≡ b → lt zero₀ (cond b (neg x) x) ≡ true → cond b (neg y) y ≡ sign_of x ⊗ y
    go true below above = sign_below x y t (le→not-lt x zero₀ (lt→le x zero₀ (yes below))) below
    go false below above = sign_above x y t above
