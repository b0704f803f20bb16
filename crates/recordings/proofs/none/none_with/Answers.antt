-- `recordings::none_with` meets its contract. The loop's invariant: what the definition makes of the samples from here
-- is what it makes of all. Assumes nothing.
use Rattle.std.proofs.Common.{◌∙◌, sym, arith, take, get_or-take}
use Rattle.values.specs.Samples.{silence, samples}
use Rattle.lists.proofs.Laws.Folds.{folds-on, folded-all}
use Rattle.recordings.specs.None.{none_after}
use Rattle.recordings.proofs.Laws.Front.{length_front}
use Rattle.recordings.proofs.none.none_with.Goals as goal

pub loop-k-preserved : goal.loop-k-preserved
loop-k-preserved c =
    let a = c.args in
    let t = c.loop-k in
    let all = length_front a.output.now a.n in
    folds-on none_after (take a.n (samples a.output.now)) silence t.k (omega arith) (c.sample_at.ensures ∙ sym (get_or-take a.n (samples a.output.now) t.k silence (omega arith))) t.none c.count-none.ensures t.invariant

pub returns : goal.returns
returns c =
    let a = c.args in
    let all = length_front a.output.now a.n in
    folded-all none_after (take a.n (samples a.output.now)) silence c.loop-k.k (omega arith) c.loop-k.invariant
