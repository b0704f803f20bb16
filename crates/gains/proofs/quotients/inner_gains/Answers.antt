-- `gains::inner_gains` meets its contract: the code is the definition, operation by operation. Assumes nothing.
use mathlib.Core.Path.{refl}
use lib.Ieee.{of_bits}
use Rattle.gains.specs.Quotients.{theta, divisor, proportional, integral}
use Rattle.gains.proofs.quotients.inner_gains.Goals as goal

pub returns : goal.returns
unfolding proportional integral theta divisor of_bits
returns c = refl
