-- `recordings::defaults::carrier_defaults` meets its contract: the constants are the decimals, nearest in f64.
-- Assumes nothing.
use Rattle.std.proofs.Common.{refl}
use lib.Ieee.{of_bits, round}
use Rattle.recordings.proofs.defaults.carrier_defaults.Goals as goal

pub returns : goal.returns
unfolding of_bits round
returns c = refl
