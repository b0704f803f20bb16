-- `timing::interp1` meets its contract: the code is the definition, operation by operation. Assumes nothing.
use Rattle.std.proofs.Common.{refl}
use lib.Ieee.{of_bits, round}
use Rattle.timing.specs.Part.{interpolated}
use Rattle.timing.proofs.part.interp1.Goals as goal

pub returns : goal.returns
unfolding interpolated of_bits round
returns c = refl
