-- `detectors::lock::measure4` meets its contract: the code is the definition, operation by operation.
-- Assumes nothing.
use mathlib.Core.Path.{refl}
use lib.Ieee.{of_bits}
use Rattle.detectors.specs.Lock.{qpsk_measure, quad}
use Rattle.detectors.proofs.lock.measure4.Goals as goal

pub returns : goal.returns
unfolding qpsk_measure quad of_bits
returns c = refl
