-- Inside its limit and above the flush threshold a value is neither flushed nor limited. Assumes nothing.
use Rattle.std.proofs.Common.{◌≡◌, Bool, true, false, cond, T, sym, refl, ap, ◌∙◌, subst}
use lib.Ieee.{Float, nan, inf, fin, binary32, neg, le, lt}
use Rattle.ieee.specs.Notation.{zero₀}
use Rattle.ieee.specs.Fraction.{number}
use Rattle.ieee.proofs.Laws.Algebra.{neg-neg}
use Rattle.ieee.proofs.Laws.Test.{yes, no}
use Rattle.ieee.proofs.Laws.Like.{like-refl, like-sym}
use Rattle.ieee.proofs.Laws.Compare.{like-lt}
use Rattle.ieee.proofs.Laws.Order.{neg-le, lt→le, le→not-lt, not-lt→le, le-trans-float}
use Rattle.numbers.specs.Denormal.{tiny, flushed}
use Rattle.numbers.specs.Range.{limited}
use Rattle.numbers.proofs.Laws.Range.{limit-inside}
use Rattle.constellations.specs.Octant.{size_of}
use Rattle.constellations.proofs.Laws.Size.{size-alike}

-- from the threshold up
not-flushed : (t : Float) → T (le (tiny binary32) (size_of t)) → flushed binary32 t ≡ t
unfolding flushed
not-flushed t h = ap (λ (b : Bool). cond b zero₀ t) (like-lt (like-sym (size-alike t)) (like-refl (tiny binary32)) ∙ le→not-lt (tiny binary32) (size_of t) h)

-- what is compared is a number
le-number : (x y : Float) → T (le x y) → T (number x)
le-number nan y h = absurd (unfold le in h)
le-number (inf s) y h = tt
le-number (fin s m e) y h = tt

-- up to the limit, on both sides
inside_both : (t l : Float) → T (le (size_of t) l) → T (le (neg l) t) × T (le t l)
unfolding size_of
inside_both t l = go (lt t zero₀) refl
  where
    go : (b : Bool) → lt t zero₀ ≡ b → T (le (cond b (neg t) t) l) → T (le (neg l) t) × T (le t l)
    go true e h =
        let below = lt→le t zero₀ (yes e) in
        let size = le-trans-float zero₀ (neg zero₀) (neg t) (unfold le neg in tt) (neg-le t zero₀ below) in
        (subst (λ (x : Float). T (le (neg l) x)) (neg-neg t) (neg-le (neg t) l h), le-trans-float t zero₀ l below (le-trans-float zero₀ (neg t) l size h))
    go false e h =
        let above = not-lt→le t zero₀ (le-number t l h) tt (no e) in
        let limit = le-trans-float (neg l) (neg zero₀) zero₀ (neg-le zero₀ l (le-trans-float zero₀ t l above h)) (unfold le neg in tt) in
        (le-trans-float (neg l) zero₀ t limit above, h)

pub untouched-inside : (t limit : Float) {a : Float} → a ≡ size_of t → le a limit ≡ true → le (tiny binary32) a ≡ true → t ≡ limited (flushed binary32 t) limit
untouched-inside t limit e h k =
    let b = inside_both t limit (yes (ap (λ (x : Float). le x limit) (sym e) ∙ h)) in
    sym (ap (λ (x : Float). limited x limit) (not-flushed t (yes (ap (le (tiny binary32)) (sym e) ∙ k))) ∙ limit-inside t limit b.0 b.1)
