-- `recordings::content_with` meets its contract. The loop's invariant: what the definition makes of the samples from
-- here is what it makes of all. Assumes nothing.
use Rattle.std.proofs.Common.{arith}
use Rattle.values.specs.Samples.{silence, samples}
use Rattle.values.proofs.Laws.Samples.{length-samples}
use Rattle.lists.proofs.Laws.Folds.{folds-on, folded-all}
use Rattle.recordings.specs.Content.{seen}
use Rattle.recordings.proofs.content.content_with.Goals as goal

pub loop-k-preserved : goal.loop-k-preserved
loop-k-preserved c =
    let t = c.loop-k in
    let input = c.args.input.now in
    folds-on seen (samples input) silence t.k (omega (arith, length-samples input)) c.sample_at.ensures t.content c.see-content.ensures t.invariant

pub returns : goal.returns
returns c = let input = c.args.input.now in folded-all seen (samples input) silence c.loop-k.k (omega (arith, length-samples input)) c.loop-k.invariant
