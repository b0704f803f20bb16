-- The octant depends only on where both parts lie relative to zero and on the comparisons of their magnitudes: it is
-- below 8, samples alike have the same, silence and NaN have 0, and the code's sum is it. Assumes nothing.
use mathlib.Core.Path.{◌≡◌, refl, sym, ◌∙◌}
use Prim.Native.Nat.{ℕ, zero, ◌+◌, ◌<◌}
use native.Mathlib.Omega.{arith}
use mathlib.Core.Bool.{Bool, true, false, ◌&&◌, ◌||◌, cond}
use lib.IntN.{ℤ}
use lib.Ieee.{Float, nan, fin, lt, le}
use Rattle.ieee.specs.Notation.{zero₀}
use Rattle.ieee.specs.Magnitude.{magnitude}
use Rattle.ieee.proofs.Laws.Compare.{like-lt}
use Rattle.ieee.proofs.Laws.Magnitude.{like-magnitude}
use Rattle.values.specs.declared.sample.C32.{C32}
use Rattle.values.specs.Turn.{AlikeSample}
use Rattle.constellations.specs.Octant.{size_of, octant_of}
use Rattle.constellations.proofs.Laws.Size.{size-lt}
use Rattle.constellations.proofs.Laws.Class.{Class, low, nil, high, none, class, flip, is_high, is_nil, class-alike, above_zero, below-zero, from_zero, to-zero}

abbrev pub wide : C32 → Bool
wide y = lt (magnitude y.im) (magnitude y.re)

abbrev pub tall : C32 → Bool
tall y = lt (magnitude y.re) (magnitude y.im)

-- ---- the quadrants, of the classes a and b of both parts
abbrev is_first : Class → Class → Bool
is_first a b = is_high a && (is_high b || is_nil b)

abbrev is_second : Class → Class → Bool
is_second a b = (is_high (flip a) || is_nil a) && is_high b

abbrev is_third : Class → Class → Bool
is_third a b = is_high (flip a) && (is_high (flip b) || is_nil b)

abbrev is_fourth : Class → Class → Bool
is_fourth a b = (is_high a || is_nil a) && is_high (flip b)

module _ (y : C32) where
  in-first : (lt zero₀ y.re && le zero₀ y.im) ≡ is_first (class y.re) (class y.im)
  in-first = λ j. above_zero y.re j && from_zero y.im j

  in-second : (le y.re zero₀ && lt zero₀ y.im) ≡ is_second (class y.re) (class y.im)
  in-second = λ j. to-zero y.re j && above_zero y.im j

  in-third : (lt y.re zero₀ && le y.im zero₀) ≡ is_third (class y.re) (class y.im)
  in-third = λ j. below-zero y.re j && to-zero y.im j

  in-fourth : (le zero₀ y.re && lt y.im zero₀) ≡ is_fourth (class y.re) (class y.im)
  in-fourth = λ j. from_zero y.re j && below-zero y.im j

-- ---- the octant, of the classes and of both comparisons
abbrev picked : Bool → Bool → Bool → Bool → Bool → Bool → ℕ
picked first second third fourth w t = cond first (cond w 0 1) (cond second (cond t 2 3) (cond third (cond w 4 5) (cond fourth (cond t 6 7) 0)))

unfoldable pub octant_by : Class → Class → Bool → Bool → ℕ
octant_by a b w t = picked (is_first a b) (is_second a b) (is_third a b) (is_fourth a b) w t

pub octant-by : (y : C32) → octant_of y ≡ octant_by (class y.re) (class y.im) (wide y) (tall y)
unfolding octant_of octant_by
octant-by y = λ j. picked (in-first y j) (in-second y j) (in-third y j) (in-fourth y j) (wide y) (tall y)

-- ---- samples alike
pub octant-alike : {v z : C32} → AlikeSample v z → octant_of v ≡ octant_of z
octant-alike {v} {z} p =
    let re = like-magnitude p.real in
    let im = like-magnitude p.imag in
    octant-by v ∙ (λ j. octant_by (class-alike p.real j) (class-alike p.imag j) (like-lt im re j) (like-lt re im j)) ∙ sym (octant-by z)

-- ---- below 8
pick-below : (b : Bool) {k j : ℕ} → k < 8 → j < 8 → cond b k j < 8
pick-below true h l = h
pick-below false h l = l

by-below : (a b : Class) (w t : Bool) → octant_by a b w t < 8
unfolding octant_by
by-below a b w t = pick-below (is_first a b) (half-below w 0 (omega arith)) (pick-below (is_second a b) (half-below t 2 (omega arith)) (pick-below (is_third a b) (half-below w 4 (omega arith)) (pick-below (is_fourth a b) (half-below t 6 (omega arith)) (omega arith))))
  where
    half-below : (b : Bool) (k : ℕ) → k < 7 → cond b k (k + 1) < 8
    half-below b k h = pick-below b (omega arith) (omega arith)

pub octant-below : (y : C32) → octant_of y < 8
octant-below y = rw (octant-by y) (by-below (class y.re) (class y.im) (wide y) (tall y))

-- ---- the code's sum of four terms: a sample lies in one quadrant at most, so that at most one term is not zero
abbrev term : Bool → Bool → ℕ → ℕ
term here nearer k = cond here (cond nearer k (k + 1)) 0

sum_is : (a b : Class) (w t : Bool) → (term (is_first a b) w 0 + term (is_second a b) t 2) + (term (is_third a b) w 4 + term (is_fourth a b) t 6) ≡ octant_by a b w t
unfolding octant_by
sum_is low low w t = omega arith
sum_is low nil w t = omega arith
sum_is low high w t = omega arith
sum_is low none w t = refl
sum_is nil low w t = omega arith
sum_is nil nil w t = refl
sum_is nil high w t = omega arith
sum_is nil none w t = refl
sum_is high low w t = omega arith
sum_is high nil w t = omega arith
sum_is high high w t = omega arith
sum_is high none w t = refl
sum_is none b w t = refl

module _ (y : C32) {m n : Float} (p : m ≡ size_of y.re) (q : n ≡ size_of y.im) where
  wide_is : lt n m ≡ wide y
  wide_is = (λ j. lt (q j) (p j)) ∙ size-lt y.im y.re

  tall-is : lt m n ≡ tall y
  tall-is = (λ j. lt (p j) (q j)) ∙ size-lt y.re y.im

  pub octant-sum : (term (lt zero₀ y.re && le zero₀ y.im) (lt n m) 0 + term (le y.re zero₀ && lt zero₀ y.im) (lt m n) 2) + (term (lt y.re zero₀ && le y.im zero₀) (lt n m) 4 + term (le zero₀ y.re && lt y.im zero₀) (lt m n) 6) ≡ octant_of y
  octant-sum =
      (λ j. (term (in-first y j) (wide_is j) 0 + term (in-second y j) (tall-is j) 2) + (term (in-third y j) (wide_is j) 4 + term (in-fourth y j) (tall-is j) 6))
      ∙ sum_is (class y.re) (class y.im) (wide y) (tall y)
      ∙ sym (octant-by y)

-- ---- C14: octant 0 of a NaN and of silence
by-none : (a : Class) (w t : Bool) → octant_by a none w t ≡ 0
unfolding octant_by
by-none low w t = refl
by-none nil w t = refl
by-none high w t = refl
by-none none w t = refl

pub octant-nan-re : (x : Float) → octant_of (record { re = nan; im = x }) ≡ 0
unfolding octant_by class
octant-nan-re x = octant-by (record { re = nan; im = x })

pub octant-nan-im : (x : Float) → octant_of (record { re = x; im = nan }) ≡ 0
unfolding class
octant-nan-im x = let y : C32 = record { re = x; im = nan } in octant-by y ∙ by-none (class x) (wide y) (tall y)

-- zeros of either sign
pub octant-silence : (s t : Bool) (d e : ℤ) → octant_of (record { re = fin s zero d; im = fin t zero e }) ≡ 0
unfolding octant_by class
octant-silence s t d e = octant-by (record { re = fin s zero d; im = fin t zero e })
