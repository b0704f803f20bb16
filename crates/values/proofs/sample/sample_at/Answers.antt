-- `values::sample_at` meets its contract, by the sample of a slice at an index, or past the last. Assumes nothing.
use mathlib.Core.Path.{sym}
use lib.Ieee.{of_bits}
use Rattle.values.proofs.Laws.Samples.{get_or-samples, get_or_past}
use Rattle.values.proofs.sample.sample_at.Goals as goal

pub returns-then-k-input : goal.returns-then-k-input
returns-then-k-input c = let a = c.args in sym (get_or-samples a.input.now a.k _ _ c.if-k-input.true)

pub returns-else-k-input : goal.returns-else-k-input
unfolding of_bits
returns-else-k-input c = let a = c.args in sym (get_or_past a.input.now a.k _ c.if-k-input.false)
