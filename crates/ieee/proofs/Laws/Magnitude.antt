-- A magnitude is below t exactly if the value lies between -t and t; and it does not depend on the sign.
-- Assumes nothing.
use mathlib.Core.Path.{◌≡◌, refl, sym, ap, ◌∙◌}
use Prim.Native.Nat.{ℕ, zero, suc, ◌+◌, ◌*◌, ◌<◌}
use native.Mathlib.Nat.{mul-lt-mul_of_pos_right}
use native.Mathlib.Omega.{arith}
use mathlib.Core.Bool.{Bool, true, false, ◌&&◌, and-true, and-false}
use lib.IntN.{ℤ}
use lib.Dec.{T}
use lib.Ieee.{Float, nan, inf, fin, neg, lt}
use lib.Ieee.Bits.{is_true}
use lib.Ieee.Positive.{den, den_pos}
use Rattle.ieee.specs.Alike.{plain, signed, Like}
use Rattle.ieee.specs.Notation.{zero₀}
use Rattle.ieee.specs.Fraction.{plus, less}
use Rattle.ieee.specs.Magnitude.{magnitude}
use Rattle.ieee.proofs.Laws.Order.{lt→cross, cross→lt}
use Rattle.ieee.proofs.Laws.Compare.{lt-negs}

-- what has a minus sign lies below every t above 0
minus-lt : (m : ℕ) (e : ℤ) (t : Float) → T (lt zero₀ t) → lt (fin true m e) t ≡ true
minus-lt m e nan h = absurd (unfold lt in h)
minus-lt m e (inf true) h = absurd (unfold lt in h)
minus-lt m e (inf false) h = unfold lt in refl
minus-lt m e (fin u n d) h =
    let x = fin true m e in
    let t = fin u n d in
    let k = lt→cross zero₀ t tt tt h in
    is_true (lt x t) (cross→lt x t tt tt (over (plus t) (less t) (less x) (den x) (den t) k (den_pos x)))
  where
    over : (P N M d b : ℕ) → 0 * b + N * 1 < P * 1 + 0 * b → 0 < d → 0 * b + N * d < P * d + M * b
    over P N M d b h D = let g : N * d < P * d = mul-lt-mul_of_pos_right (omega arith) D in omega arith

magnitude-inf : (s : Bool) (t : Float) → lt (inf false) t ≡ (lt (neg t) (inf s) && lt (inf s) t)
unfolding lt neg
magnitude-inf s nan = refl
magnitude-inf true (inf true) = refl
magnitude-inf true (inf false) = refl
magnitude-inf false (inf true) = refl
magnitude-inf false (inf false) = refl
magnitude-inf true (fin u n d) = refl
magnitude-inf false (fin u n d) = refl

pub magnitude-lt : (x t : Float) → T (lt zero₀ t) → lt (magnitude x) t ≡ (lt (neg t) x && lt x t)
unfolding magnitude neg
magnitude-lt nan t h = unfold lt in sym (and-false (lt (neg t) nan))
magnitude-lt (inf s) t h = magnitude-inf s t
magnitude-lt (fin false m e) t h = sym (ap (λ (b : Bool). b && lt (fin false m e) t) (opposite ∙ minus-lt m e t h))
  where
    opposite : lt (neg t) (fin false m e) ≡ lt (fin true m e) t
    opposite = lt-negs t (fin true m e)
magnitude-lt (fin true m e) t h = sym (lt-negs t (fin false m e)) ∙ sym (and-true (lt (neg t) (fin true m e))) ∙ sym (ap (λ (b : Bool). lt (neg t) (fin true m e) && b) (minus-lt m e t h))

-- ---- of floats alike up to a sign
magnitude-neg : (x : Float) → magnitude (neg x) ≡ magnitude x
unfolding magnitude neg
magnitude-neg nan = refl
magnitude-neg (inf s) = refl
magnitude-neg (fin s m e) = refl

magnitude-plain : (x : Float) → plain (magnitude (plain x)) ≡ plain (magnitude x)
unfolding magnitude plain
magnitude-plain nan = refl
magnitude-plain (inf s) = refl
magnitude-plain (fin s zero e) = refl
magnitude-plain (fin s (suc m) e) = refl

pub like-magnitude : {s : Bool} {x y : Float} → Like s x y → Like false (magnitude x) (magnitude y)
unfolding signed
like-magnitude {s = true} {x} {y} p = record { same = cc (magnitude-plain x, magnitude-plain (neg y), p.same, magnitude-neg y) }
like-magnitude {s = false} {x} {y} p = record { same = cc (magnitude-plain x, magnitude-plain y, p.same) }
