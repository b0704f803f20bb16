-- `detectors::derotate` meets its contract: the code is the definition, operation by operation. Assumes nothing.
use mathlib.Core.Path.{refl}
use Rattle.detectors.specs.Detector.{derotated}
use Rattle.detectors.proofs.detection.derotate.Goals as goal

pub returns : goal.returns
unfolding derotated
returns c = refl
