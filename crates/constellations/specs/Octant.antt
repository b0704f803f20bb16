-- C14 and C15: the octant of a sample, the eight points, and the point that a sample is compared with.
-- Definitions only.
use Rattle.std.specs.Prelude.{ℕ, ◌&&◌, cond, List, [], ◌∷◌, get_or, Float}
use Rattle.std.specs.Float.{binary32}
use Rattle.std.specs.Float.Ieee.{of_bits, neg, lt, le}
use Rattle.ieee.specs.Notation.{zero₀}
use Rattle.ieee.specs.Magnitude.{magnitude}
use Rattle.values.specs.declared.sample.C32.{C32}
use Rattle.values.specs.Samples.{silence}
use Rattle.constellations.specs.declared.kinds.CostasConstellation.{CostasConstellation}
use Rattle.constellations.specs.declared.kinds.CostasConstellation.TheVariants.{Bpsk, Qpsk, Psk8}

-- |x| as the code compares it: a zero keeps its sign
unfoldable pub size_of : Float → Float
size_of x = cond (lt x zero₀) (neg x) x

-- C14: the signs give the quadrant, the magnitudes its half; silence and NaN lie in no quadrant and have octant 0
unfoldable pub octant_of : C32 → ℕ
octant_of y =
    let wide = lt (magnitude y.im) (magnitude y.re) in
    let tall = lt (magnitude y.re) (magnitude y.im) in
    cond (lt zero₀ y.re && le zero₀ y.im) (cond wide 0 1)
    (cond (le y.re zero₀ && lt zero₀ y.im) (cond tall 2 3)
    (cond (lt y.re zero₀ && le y.im zero₀) (cond wide 4 5)
    (cond (le zero₀ y.re && lt y.im zero₀) (cond tall 6 7) 0)))

-- cos(π / 8) and sin(π / 8), each the nearest f32 (`points-are-cosines`)
abbrev pub c8 : Float
c8 = of_bits binary32 0x3f6c835e

abbrev pub s8 : Float
s8 = of_bits binary32 0x3ec3ef15

abbrev at : Float → Float → C32
at x y = record { re = x; im = y }

-- C15: `POINTS8`, the points in the order of the octants
unfoldable pub points8 : List C32
points8 = at c8 s8 ∷ at s8 c8 ∷ at (neg s8) c8 ∷ at (neg c8) s8 ∷ at (neg c8) (neg s8) ∷ at (neg s8) (neg c8) ∷ at s8 (neg c8) ∷ at c8 (neg s8) ∷ []

abbrev pub point_at : ℕ → C32
point_at k = get_or points8 k silence

abbrev pub point_of : C32 → C32
point_of y = point_at (octant_of y)

-- C16: (dr, di), the point of the octant, for 8-PSK; BPSK and QPSK use none
unfoldable pub decision_of : CostasConstellation → C32 → C32
decision_of Bpsk y = silence
decision_of Qpsk y = silence
decision_of Psk8 y = point_of y
