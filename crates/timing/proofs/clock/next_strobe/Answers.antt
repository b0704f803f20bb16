-- `timing::next_strobe` meets its contract: the position as an f64, less 3, and the fraction. Assumes nothing.
use Rattle.std.proofs.Common.{ap}
use lib.Ieee.{Float, binary64, of_bits, add, sub}
use Rattle.ieee.specs.Notation.{three₀}
use Rattle.timing.specs.Clock.{next_strobe}
use Rattle.timing.proofs.clock.next_strobe.Goals as goal

pub returns : goal.returns
unfolding next_strobe of_bits
returns c = ap (λ (x : Float). add binary64 (sub binary64 x three₀) c.args.c.mu) c.nearest_u64_to_f64.ensures
