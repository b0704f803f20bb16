-- `numbers::narrowing::narrow_bits` meets its contract: each way through it is one of the laws on places.
-- Assumes nothing.
use native.Mathlib.Omega.{arith}
use Rattle.numbers.proofs.Laws.Places.{narrow-none, narrow-low, narrow-normal, narrow-over}
use Rattle.numbers.proofs.narrowing.narrow_bits.Goals as goal

pub returns-then-field-lt-HALF_SMALLEST-clause-result_value :
    goal.returns-then-field-lt-HALF_SMALLEST-clause-result_value
returns-then-field-lt-HALF_SMALLEST-clause-result_value c = narrow-none c.args.size (omega arith)

pub returns-then-field-lt-NORMAL : goal.returns-then-field-lt-NORMAL
returns-then-field-lt-NORMAL c =
    let w = narrow-low c.args.size c.shifted.result (omega arith) (omega arith) c.shifted.ensures in
    record { result_value = w.0; upper_bound = omega arith }

pub returns-then-field-lt-BEYOND : goal.returns-then-field-lt-BEYOND
returns-then-field-lt-BEYOND c =
    let w = narrow-normal c.args.size c.shifted-then-field-lt-BEYOND.result (omega arith) (omega arith) c.shifted-then-field-lt-BEYOND.ensures in
    record { result_value = w.0; upper_bound = omega arith }

pub returns-else-field-lt-BEYOND-clause-result_value :
    goal.returns-else-field-lt-BEYOND-clause-result_value
returns-else-field-lt-BEYOND-clause-result_value c = narrow-over c.args.size (omega arith) (omega arith)
