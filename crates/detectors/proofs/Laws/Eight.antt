-- 8-PSK: a quarter turn leaves the detector and the lock measure as they are, and so does a zero's sign.
-- Assumes nothing.
use mathlib.Core.Path.{◌≡◌, refl, ap, ◌∙◌}
use lib.Ieee.{Float, nan, binary32, neg, add, mul}
use Rattle.ieee.specs.Alike.{Alike}
use Rattle.ieee.proofs.Laws.Algebra.{add-swap, sub_is, mul-negs}
use Rattle.ieee.proofs.Laws.Like.{like-refl, like-square, likes, crossed}
use Rattle.ieee.specs.Notation.{◌⊕◌, ◌⊗◌}
use Rattle.values.specs.declared.sample.C32.{C32}
use Rattle.values.specs.Turn.{turn, AlikeSample}
use Rattle.constellations.specs.declared.kinds.CostasConstellation.TheVariants.{Psk8}
use Rattle.constellations.specs.Octant.{octant_of, point_at, point_of}
use Rattle.detectors.specs.Detector.{detected}
use Rattle.detectors.specs.Lock.{square, along, fourfold, psk8_measure}
use Rattle.constellations.proofs.Laws.Octant.{octant-alike, octant-below}
use Rattle.constellations.proofs.Laws.Points.{points-turn}
use Rattle.constellations.proofs.Laws.OctantTurn.{Turning, on, still, real-nan, imag-nan, turning}

-- ---- of a NaN
neg-nan : neg nan ≡ nan
unfolding neg
neg-nan = refl

mul-nan : (x : Float) → nan ⊗ x ≡ nan
unfolding mul
mul-nan x = refl

add-nan : (x : Float) → nan ⊕ x ≡ nan
unfolding add
add-nan x = refl

add-nan-right : (x : Float) → x ⊕ nan ≡ nan
add-nan-right x = add-swap binary32 x nan ∙ add-nan x

-- ---- any number made of a sample and a point, which turning both leaves alike
record Still (G : C32 → C32 → Float) : Type 0 where
  alike : (v z d : C32) → AlikeSample v z → Alike (G v d) (G z d)
  turned : (y d : C32) → Alike (G (turn y) (turn d)) (G y d)
  of-real-nan : (y d : C32) → y.re ≡ nan → G y d ≡ nan
  of-imag-nan : (y d : C32) → y.im ≡ nan → G y d ≡ nan

module _ (G : C32 → C32 → Float) (h : Still G) where
  point-alike : {v z : C32} → AlikeSample v z → Alike (G v (point_of v)) (G z (point_of z))
  point-alike {v} {z} p = rw (octant-alike p) (h.alike v z (point_of z) p)

  point-turn : (y : C32) → Alike (G (turn y) (point_of (turn y))) (G y (point_of y))
  point-turn y = by (turning y)
    where
      by : Turning y → Alike (G (turn y) (point_of (turn y))) (G y (point_of y))
      by (on e) = rw (ap point_at e ∙ points-turn (octant_of y) (octant-below y)) (h.turned y (point_of y))
      by (still p) = point-alike p
      by (real-nan e) = rw (h.of-imag-nan (turn y) (point_of (turn y)) e, h.of-real-nan y (point_of y) e) (like-refl nan)
      by (imag-nan e) = rw (h.of-real-nan (turn y) (point_of (turn y)) (ap neg e ∙ neg-nan), h.of-imag-nan y (point_of y) e) (like-refl nan)

-- ---- the detector
still-detected : Still (detected Psk8)
unfolding detected
still-detected = record {
  alike = λ v z d p. search likes;
  turned = λ y d. search (likes, crossed);
  of-real-nan = λ y d e. rw (sub_is, e, mul-nan, neg-nan) (add-nan-right (y.im ⊗ d.re));
  of-imag-nan = λ y d e. rw (sub_is, e, mul-nan) (add-nan _);
}

pub detected8-turn : (y : C32) → Alike (detected Psk8 (turn y) (point_of (turn y))) (detected Psk8 y (point_of y))
detected8-turn y = point-turn (detected Psk8) still-detected y

pub detected8-alike : {v z : C32} → AlikeSample v z → Alike (detected Psk8 v (point_of v)) (detected Psk8 z (point_of z))
detected8-alike p = point-alike (detected Psk8) still-detected p

-- ---- the measure
still-along : Still along
unfolding along
still-along = record {
  alike = λ v z d p. search likes;
  turned = λ y d. search (likes, crossed);
  of-real-nan = λ y d e. rw (e, mul-nan) (add-nan _);
  of-imag-nan = λ y d e. rw (e, mul-nan) (add-nan-right (y.re ⊗ d.re));
}

pub psk8_measure-turn : (y : C32) → psk8_measure (turn y) (point_of (turn y)) ≡ psk8_measure y (point_of y)
unfolding psk8_measure
psk8_measure-turn y =
    let r = like-square binary32 (point-turn along still-along y) in
    let t = ap (λ a. a ⊕ square y.re) (mul-negs binary32 y.im y.im) ∙ add-swap binary32 (square y.im) (square y.re) in
    λ j. fourfold (r j) (t j)

pub psk8_measure-alike : {v z : C32} → AlikeSample v z → psk8_measure v (point_of v) ≡ psk8_measure z (point_of z)
unfolding psk8_measure
psk8_measure-alike p = λ j. fourfold (like-square binary32 (point-alike along still-along p) j) (like-square binary32 p.real j ⊕ like-square binary32 p.imag j)
