-- Flushing gives 0 or the value itself, so that it keeps a value finite, or a number, and within limits around 0,
-- and floats alike up to a sign so; and the code's two comparisons are the magnitude's one.
-- Each law once, for both formats. Assumes nothing.
use mathlib.Core.Path.{◌≡◌, refl, sym, ap, ◌∙◌, subst}
use mathlib.Core.Logic.{◌⊎◌, inl, inr}
use mathlib.Core.Bool.{Bool, true, false, ◌&&◌, cond}
use lib.Dec.{T}
use lib.IntN.{pos}
use lib.Ieee.{Float, Format, binary32, binary64, round, neg, le, lt}
use lib.Ieee.Scale.{finite}
use Rattle.ieee.specs.Alike.{Like}
use Rattle.ieee.specs.Notation.{zero₀}
use Rattle.ieee.specs.Magnitude.{magnitude}
use Rattle.numbers.specs.Denormal.{tiny, flushed}
use Rattle.ieee.specs.Fraction.{number}
use Rattle.ieee.proofs.Laws.Like.{like-refl, like-zero}
use Rattle.ieee.proofs.Laws.Compare.{like-lt, like-cond}
use Rattle.ieee.proofs.Laws.Magnitude.{magnitude-lt, like-magnitude}

-- ---- one of two
pub flush-or : (f : Format) (x : Float) → (flushed f x ≡ zero₀) ⊎ (flushed f x ≡ x)
unfolding flushed
flush-or f x = go (lt (magnitude x) (tiny f))
  where
    go : (b : Bool) → (cond b zero₀ x ≡ zero₀) ⊎ (cond b zero₀ x ≡ x)
    go true = inl refl
    go false = inr refl

pub flush-finite : (f : Format) (x : Float) → T (finite x) → T (finite (flushed f x))
flush-finite f x h = elim (flush-or f x) [ inl e ↦ subst (λ (z : Float). T (finite z)) (sym e) tt | inr e ↦ subst (λ (z : Float). T (finite z)) (sym e) h ]

pub flush-number : (f : Format) (x : Float) → T (number x) → T (number (flushed f x))
flush-number f x h = elim (flush-or f x) [ inl e ↦ subst (λ (z : Float). T (number z)) (sym e) tt | inr e ↦ subst (λ (z : Float). T (number z)) (sym e) h ]

-- what lay within limits around 0 still does
pub flush-within : (f : Format) (lo x hi : Float) → T (le lo zero₀) → T (le zero₀ hi) → T (le lo x) → T (le x hi) → T (le lo (flushed f x)) × T (le (flushed f x) hi)
flush-within f lo x hi a b h k = elim (flush-or f x) [
  | inl e ↦ subst (λ (z : Float). T (le lo z) × T (le z hi)) (sym e) (a, b)
  | inr e ↦ subst (λ (z : Float). T (le lo z) × T (le z hi)) (sym e) (h, k)
]

pub like-flush : (f : Format) {s : Bool} {x y : Float} → Like s x y → Like s (flushed f x) (flushed f y)
unfolding flushed
like-flush f {s} p = like-cond (like-lt (like-magnitude p) (like-refl (tiny f))) (like-zero s false false (pos 0) (pos 0)) p

-- ---- by the code's two tests
tiny-above : (f : Format) → T (lt zero₀ (tiny f))
unfolding lt round
tiny-above binary32 = tt
tiny-above binary64 = tt

flush-tests : (f : Format) (x : Float) (a b : Bool) → lt (neg (tiny f)) x ≡ a → lt x (tiny f) ≡ b → cond (a && b) zero₀ x ≡ flushed f x
unfolding flushed
flush-tests f x a b h k = sym (ap (λ (t : Bool). cond t zero₀ x) (magnitude-lt x (tiny f) (tiny-above f) ∙ ap (λ (t : Bool). t && lt x (tiny f)) h ∙ ap (λ (t : Bool). a && t) k))

pub flush-inside : (f : Format) (x : Float) → lt (neg (tiny f)) x ≡ true → lt x (tiny f) ≡ true → zero₀ ≡ flushed f x
flush-inside f x h k = flush-tests f x true true h k

pub flush-above : (f : Format) (x : Float) → lt (neg (tiny f)) x ≡ true → lt x (tiny f) ≡ false → x ≡ flushed f x
flush-above f x h k = flush-tests f x true false h k

pub flush-below : (f : Format) (x : Float) → lt (neg (tiny f)) x ≡ false → x ≡ flushed f x
flush-below f x h = flush-tests f x false (lt x (tiny f)) h refl
