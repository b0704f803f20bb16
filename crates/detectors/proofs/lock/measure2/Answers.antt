-- `detectors::lock::measure2` meets its contract: the code is the definition, operation by operation.
-- Assumes nothing.
use mathlib.Core.Path.{refl}
use Rattle.detectors.specs.Lock.{bpsk_measure}
use Rattle.detectors.proofs.lock.measure2.Goals as goal

pub returns : goal.returns
unfolding bpsk_measure
returns c = refl
