-- The literal 1e-30 is `tiny`. Assumes nothing.
use mathlib.Core.Path.{refl}
use lib.Ieee.{of_bits, round}
use Rattle.numbers.proofs.denormal.F32Flushed.TINY.Goals as goal

pub returns : goal.returns
unfolding of_bits round
returns c = refl
