-- `modulate::modulate::phase_step` meets its contract: each way gives the same step, the constant 1/2 being read from
-- its bits. Assumes nothing.
use lib.Ieee.{of_bits, neg}
use Rattle.ieee.proofs.Laws.Test.{yes}
use Rattle.modulate.proofs.modulate.phase_step.Goals as goal

pub phase_step_fast-requires : goal.phase_step_fast-requires
unfolding of_bits neg
phase_step_fast-requires c = record { lower_bound = yes c.if-v-2.true; upper_bound = yes c.if-v.true }

pub returns-then-v-2 : goal.returns-then-v-2
unfolding of_bits
returns-then-v-2 c = c.phase_step_fast.ensures

pub returns : goal.returns
unfolding of_bits
returns c = c.phase_step_wide.ensures
