-- C13 and C16: the output sample and its phase error, in f32. Definitions only.
use Rattle.std.specs.Prelude.{cond, Float}
use Rattle.std.specs.Float.Ieee.Scale.{finite}
use Rattle.ieee.specs.Notation.{zero₀, ◌⊕◌, ◌⊖◌, ◌⊗◌}
use Rattle.values.specs.declared.sample.C32.{C32}
use Rattle.numbers.specs.Sign.{sign_of}
use Rattle.mix.specs.declared.oscillator.Pair.{Pair}
use Rattle.constellations.specs.declared.kinds.CostasConstellation.{CostasConstellation}
use Rattle.constellations.specs.declared.kinds.CostasConstellation.TheVariants.{Bpsk, Qpsk, Psk8}
use Rattle.constellations.specs.Octant.{decision_of}

-- C13: the output sample of the input x, with the cosine and sine q of the phase
unfoldable pub derotated : C32 → Pair → C32
derotated x q = record { re = x.re ⊗ q.c ⊕ x.im ⊗ q.s; im = x.im ⊗ q.c ⊖ x.re ⊗ q.s }

-- C16: the value of each detector, which may not be finite; d is the point of the octant, (dr, di)
unfoldable pub detected : CostasConstellation → C32 → C32 → Float
detected Bpsk y d = y.re ⊗ y.im
detected Qpsk y d = sign_of y.re ⊗ y.im ⊖ sign_of y.im ⊗ y.re
detected Psk8 y d = y.im ⊗ d.re ⊖ y.re ⊗ d.im

-- of an output and its own point
abbrev pub detected_own : CostasConstellation → C32 → Float
detected_own c y = detected c y (decision_of c y)

-- a value that is not finite counts as 0
unfoldable pub calmed : Float → Float
calmed e = cond (finite e) e zero₀

-- C16: the phase error of the output y
unfoldable pub error_of : CostasConstellation → C32 → Float
error_of c y = calmed (detected_own c y)
