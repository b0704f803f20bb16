-- `numbers::widening::widen_bits` meets its contract: each way through it is one of the laws on widening.
-- Assumes nothing.
use native.Mathlib.Omega.{arith}
use lib.Ieee.{of_bits, of_int}
use Rattle.numbers.proofs.Laws.Widening.{counted-number, widen_low, widen-normal, widen-infinite}
use Rattle.numbers.proofs.widening.widen_bits.Goals as goal

pub float_to_bits-result : goal.float_to_bits-result
unfolding of_bits of_int
float_to_bits-result c = counted-number c.args.size c.if-size-lt-LEADING_F32.true

pub returns-then-size-lt-LEADING_F32 : goal.returns-then-size-lt-LEADING_F32
unfolding of_bits of_int
returns-then-size-lt-LEADING_F32 c =
    let w = widen_low c.args.size c.if-size-lt-LEADING_F32.true in
    record { result_value = w.0; upper_bound = w.1 }

pub returns-then-size-lt-INFINITY_F32-clause-result_value :
    goal.returns-then-size-lt-INFINITY_F32-clause-result_value
returns-then-size-lt-INFINITY_F32-clause-result_value c = widen-normal c.args.size (omega arith) (omega arith)

pub returns-else-size-lt-INFINITY_F32-clause-result_value :
    goal.returns-else-size-lt-INFINITY_F32-clause-result_value
returns-else-size-lt-INFINITY_F32-clause-result_value c = widen-infinite c.args.size (omega arith)
