-- A quarter turn moves the octant two places on, but for silence, which stays where it is, and for a NaN.
-- Assumes nothing.
use mathlib.Core.Path.{◌≡◌, refl, sym, ap, ◌∙◌}
use Prim.Native.Nat.{ℕ, ◌+◌, ◌%◌}
use mathlib.Core.Bool.{Bool, true, false, cond}
use lib.Ieee.{nan, neg}
use Rattle.ieee.specs.Magnitude.{magnitude}
use Rattle.ieee.proofs.Laws.Like.{like-refl, like-sym, like-trans, like-minus}
use Rattle.ieee.proofs.Laws.Compare.{like-lt}
use Rattle.ieee.proofs.Laws.Magnitude.{like-magnitude}
use Rattle.values.specs.declared.sample.C32.{C32}
use Rattle.values.specs.Turn.{turn, AlikeSample}
use Rattle.constellations.specs.Octant.{octant_of}
use Rattle.constellations.proofs.Laws.Class.{Class, low, nil, high, none, class, flip, class-neg, nil-alike, none-nan}
use Rattle.constellations.proofs.Laws.Octant.{wide, tall, octant_by, octant-by}

pub data Turning (y : C32) : Type 0 where
  on : octant_of (turn y) ≡ (octant_of y + 2) % 8 → Turning y
  still : AlikeSample (turn y) y → Turning y
  real-nan : y.re ≡ nan → Turning y
  imag-nan : y.im ≡ nan → Turning y

-- ---- two places on
pair-on : (b : Bool) (j k : ℕ) → cond b ((j + 2) % 8) ((k + 2) % 8) ≡ (cond b j k + 2) % 8
pair-on true j k = refl
pair-on false j k = refl

octant-turn : (y : C32) → octant_of (turn y) ≡ octant_by (flip (class y.im)) (class y.re) (tall y) (wide y)
octant-turn y =
    let re = like-refl (magnitude y.re) in
    let im = like-magnitude (like-minus y.im) in
    octant-by (turn y) ∙ (λ j. octant_by (class-neg y.im j) (class y.re) (like-lt re im j) (like-lt im re j))

moves-on : (y : C32) {a b : Class} → class y.re ≡ a → class y.im ≡ b → octant_by (flip b) a (tall y) (wide y) ≡ (octant_by a b (wide y) (tall y) + 2) % 8 → Turning y
moves-on y p q e =
    let before = octant-by y ∙ (λ j. octant_by (p j) (q j) (wide y) (tall y)) in
    let after = octant-turn y ∙ (λ j. octant_by (flip (q j)) (p j) (tall y) (wide y)) in
    on (after ∙ e ∙ sym (ap (λ k. (k + 2) % 8) before))

-- ---- silence
nil-turn : (y : C32) → class y.re ≡ nil → class y.im ≡ nil → AlikeSample (turn y) y
nil-turn y p q =
    let re = nil-alike y.re p in
    record {
      real = like-trans (nil-alike (neg y.im) (class-neg y.im ∙ ap flip q)) (like-sym re);
      imag = like-trans re (like-sym (nil-alike y.im q));
    }

pub turning : (y : C32) → Turning y
turning y = by (class y.re) (class y.im) refl refl
  where
    by : (a b : Class) → class y.re ≡ a → class y.im ≡ b → Turning y
    by low low p q = moves-on y p q (unfold octant_by in pair-on (wide y) 4 5)
    by low nil p q = moves-on y p q (unfold octant_by in pair-on (wide y) 4 5)
    by low high p q = moves-on y p q (unfold octant_by in pair-on (tall y) 2 3)
    by low none p q = imag-nan (none-nan y.im q)
    by nil low p q = moves-on y p q (unfold octant_by in pair-on (tall y) 6 7)
    by nil nil p q = still (nil-turn y p q)
    by nil high p q = moves-on y p q (unfold octant_by in pair-on (tall y) 2 3)
    by nil none p q = imag-nan (none-nan y.im q)
    by high low p q = moves-on y p q (unfold octant_by in pair-on (tall y) 6 7)
    by high nil p q = moves-on y p q (unfold octant_by in pair-on (wide y) 0 1)
    by high high p q = moves-on y p q (unfold octant_by in pair-on (wide y) 0 1)
    by high none p q = imag-nan (none-nan y.im q)
    by none b p q = real-nan (none-nan y.re p)
