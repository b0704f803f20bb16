-- `detectors::lock::measure8` meets its contract: the code is the definition, operation by operation.
-- Assumes nothing.
use mathlib.Core.Path.{refl}
use lib.Ieee.{of_bits}
use Rattle.detectors.specs.Lock.{psk8_measure, fourfold, along}
use Rattle.detectors.proofs.lock.measure8.Goals as goal

pub returns : goal.returns
unfolding psk8_measure fourfold along of_bits
returns c = refl
