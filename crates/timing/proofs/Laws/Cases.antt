-- X1 to X4: the cases of the timing loop hold. Assumes nothing.
use Rattle.std.proofs.Common.{refl}
use lib.Ieee.{of_bits, round, neg, add, sub, mul}
use Rattle.timing.specs.Part.{interpolated}
use Rattle.timing.specs.Cases.{Cases}

pub cases : Cases
unfolding interpolated add sub mul neg of_bits round
cases = record { one-ahead = refl; one-on-both-sides = refl; gardner = refl; mueller-müller = refl }
