-- X9 to X12, X18 and X19 hold. Assumes nothing.
use Rattle.std.proofs.Common.{refl}
use lib.Ieee.{of_bits, round, add, sub, mul, div, neg, lt, le}
use Rattle.ieee.specs.Magnitude.{magnitude}
use Rattle.constellations.specs.Octant.{octant_of}
use Rattle.detectors.specs.Lock.{quad, qpsk_measure, measured, metric_of, lock_after}
use Rattle.carrier.specs.Cases.{Cases}

pub cases : Cases
unfolding octant_of magnitude metric_of measured qpsk_measure quad lock_after add sub mul div neg lt le round of_bits
cases =
    record {
      octant-diagonal = refl;
      octant-upright = refl;
      qpsk-diagonal = refl;
      qpsk-silence = refl;
      half_keeps = λ was. refl;
      three-tenths-keeps = λ was. refl;
      above-half-sets = λ was. refl;
      below-three-tenths-clears = λ was. refl;
    }
