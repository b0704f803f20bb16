-- `make_recording::wave::on_the_way` meets its contract: the constants are halves. Assumes nothing.
use Rattle.std.proofs.Common.{refl}
use lib.Ieee.{of_bits}
use Rattle.make_recording.proofs.wave.on_the_way.Goals as goal

pub returns : goal.returns
unfolding of_bits
returns c = refl
