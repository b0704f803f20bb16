-- `tape::send` meets its contract: what the call produced lies at the front of the symbols' buffer. Assumes nothing.
use mathlib.Core.Path.{ap, ◌∙◌}
use mathlib.Core.List.{List}
use native.Mathlib.Omega.{arith}
use lib.ListN.{length}
use lib.Ieee.{Float, of_bits}
use Rattle.little_endian.specs.Samples.{stored_bytes}
use Rattle.tape.proofs.Laws.Calls.{parts-few, parts-inside, parts-taken, parts_are, sent_is}
use Rattle.tape.proofs.steps.send.Goals as goal

pub overflow_mul-parts : goal.overflow_mul-parts
unfolding of_bits
overflow_mul-parts c = let h = parts-few _ _ c.run-ran.result _ _ c.run-ran.ensures.outcome c.from-parts.ensures in record { fits = omega arith }

pub slice_bounds-symbols-end : goal.slice_bounds-symbols-end
unfolding of_bits
slice_bounds-symbols-end c = parts-inside _ _ c.run-ran.result _ _ c.run-ran.ensures.outcome c.from-parts.ensures

pub slice_bounds-write_samples-end : goal.slice_bounds-write_samples-end
unfolding of_bits
slice_bounds-write_samples-end c = parts-taken _ _ c.run-ran.result _ _ c.run-ran.ensures.outcome c.from-parts.ensures

pub returns-clause-sent : goal.returns-clause-sent
unfolding of_bits
returns-clause-sent c = sent_is _ _ c.run-ran.result _ _ c.run-ran.ensures.outcome c.from-parts.ensures (length c.args.output.now) c.write_samples.ensures.count

pub returns-clause-output : goal.returns-clause-output
unfolding of_bits
returns-clause-output c = c.write_samples.ensures.bytes ∙ ap (λ (xs : List Float). stored_bytes xs c.args.output.now) (parts_are _ _ c.run-ran.result _ _ c.run-ran.ensures.outcome c.from-parts.ensures)
