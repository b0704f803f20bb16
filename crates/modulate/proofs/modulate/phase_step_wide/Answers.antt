-- `modulate::modulate::phase_step_wide` meets its contract: the ends by their tests, and between them by the floor,
-- the constants being read from their bits. Assumes nothing.
use Rattle.std.proofs.Common.{arith}
use lib.Ieee.{of_bits, neg}
use Rattle.ieee.proofs.Laws.Test.{yes, no}
use Rattle.modulate.proofs.Laws.Stepped.{stepped-top}
use Rattle.modulate.proofs.Laws.Wide.{minus-asks, minus-step, plus-asks, plus_step, step-bottom}
use Rattle.modulate.proofs.modulate.phase_step_wide.Goals as goal

pub returns-then-v : goal.returns-then-v
unfolding of_bits
returns-then-v c = stepped-top c.args.v (yes c.if-v.true)

pub truncating_f64_to_u64-size-requires : goal.truncating_f64_to_u64-size-requires
unfolding of_bits neg
truncating_f64_to_u64-size-requires c =
    let a = minus-asks c.args.v c.floor-n.result c.floor-n.ensures (yes c.well_formed.0.1) (no c.if-v.false) (yes c.if-v-2.true) (yes c.if-n.true) in
    record { lower_bound = a.0; upper_bound = a.1 }

pub returns-then-n : goal.returns-then-n
unfolding of_bits neg
returns-then-n c =
    minus-step c.args.v c.floor-n.result c.floor-n.ensures (yes c.well_formed.0.1) (no c.if-v.false) (yes c.if-v-2.true) (yes c.if-n.true)
    c.truncating_f64_to_u64-size.result c.wrapping_sub_u32.result c.truncating_f64_to_u64-size.ensures (omega arith) c.wrapping_sub_u32.ensures.value

pub truncating_f64_to_u64-requires : goal.truncating_f64_to_u64-requires
unfolding of_bits neg
truncating_f64_to_u64-requires c =
    let a = plus-asks c.args.v c.floor-n.result c.floor-n.ensures (yes c.well_formed.0.1) (no c.if-v.false) (yes c.if-v-2.true) (no c.if-n.false) in
    record { lower_bound = a.0; upper_bound = a.1 }

pub returns-then-v-2 : goal.returns-then-v-2
unfolding of_bits neg
returns-then-v-2 c =
    plus_step c.args.v c.floor-n.result c.floor-n.ensures (yes c.well_formed.0.1) (no c.if-v.false) (yes c.if-v-2.true) (no c.if-n.false) c.truncating_f64_to_u64.result c.truncating_f64_to_u64.ensures

pub returns : goal.returns
unfolding of_bits neg
returns c = step-bottom c.args.v (no c.if-v-2.false)
