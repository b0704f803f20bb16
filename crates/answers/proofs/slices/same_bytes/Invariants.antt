-- The loop of `answers::same_bytes`: the slices agree up to place k, and what is left falls.
use Rattle.std.proofs.Common.{◌-◌, length}
use Rattle.answers.proofs.Laws.Slices.{Agreed}
use Rattle.answers.proofs.slices.same_bytes.Given as goal

abbrev pub invariant-loop-k : goal.invariant-loop-k
invariant-loop-k l = Agreed (λ n. n) l.a l.b l.k

abbrev pub decreases-loop-k : goal.decreases-loop-k
decreases-loop-k l = length l.a - l.k
