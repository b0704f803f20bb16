-- `modulate::modulate::phase_step_fast` meets its contract: by the low bits of the sum, the constant 1.5 × 2^52 being
-- read from its bits. Assumes nothing.
use lib.Ieee.{of_bits}
use Rattle.std.proofs.Common.{arith}
use Rattle.modulate.proofs.Laws.LowBits.{sum_number, step-fast}
use Rattle.modulate.proofs.modulate.phase_step_fast.Goals as goal

pub float_to_bits-low : goal.float_to_bits-low
unfolding of_bits
float_to_bits-low c = sum_number c.args.v c.requires.lower_bound c.requires.upper_bound

pub returns : goal.returns
unfolding of_bits
returns c =
    step-fast c.args.v c.requires.lower_bound c.requires.upper_bound c.up.result c.wrapping_sub_u32.result c.up.ensures (omega arith) c.wrapping_sub_u32.ensures.value
