-- `receive_recording::block::call` meets its contract: number and counts are those of the run's answer, and of the
-- symbols that it produced those that read none are counted. Assumes nothing.
use mathlib.Core.Path.{◌≡◌, ap, ◌∙◌}
use mathlib.Core.List.{List, []}
use Prim.Native.Nat.{ℕ}
use lib.ListN.{take}
use lib.Ieee.{Float, of_bits}
use Rattle.values.specs.declared.counts.Counts.{Counts}
use Rattle.values.specs.Counts.{counts_of}
use Rattle.values.specs.Samples.{samples}
use Rattle.sample_calls.specs.declared.call.Ran.{Ran}
use Rattle.sample_calls.specs.Call.{Outcome, answered}
use Rattle.recordings.specs.None.{none_with}
use Rattle.receive_recording.specs.declared.block.Called.{Called}
use Rattle.receive_recording.specs.Block.{called_of}
use Rattle.receive_recording.proofs.block.call.Goals as goal

-- what is put together from a run that leaves ys in the output; what it leaves in the strobe buffer does not count
made : (none : ℕ) (z : Ran) (ys : List Float) {n : Counts} {k : ℕ} → n ≡ counts_of z.answer → k ≡ none_with none (take n.produced (samples ys)) → record { counts = n; receiver = z.receiver; none = k } ≡ called_of none (answered z [] ys)
made none z ys {n} counts counted =
    let with : Counts → Called = λ n. record { counts = n; receiver = z.receiver; none = none_with none (take n.produced (samples ys)) } in
    (λ j. record { counts = n; receiver = z.receiver; none = counted j }) ∙ ap with counts

pub returns-clause-outcome : goal.returns-clause-outcome
unfolding of_bits
returns-clause-outcome g c =
    let none = c.args.none in
    let run = c.run-ran in
    made none run.result _ c.from-counts.ensures c.none_with.ensures ∙ ap (λ (o : Outcome). called_of none o) run.ensures.outcome
