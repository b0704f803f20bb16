-- `recordings::write_digits` meets its contract. The loop's invariant: the first k digits are stored.
-- Assumes nothing.
use Rattle.std.proofs.Common.{ap, ◌∙◌, arith, List, ℕ, take_all}
use Rattle.values.specs.Samples.{silence}
use Rattle.recordings.specs.Text.{digit_of}
use Rattle.std.proofs.lemmas.List.Edits.{sets}
use Rattle.recordings.specs.Text as spec
use Rattle.lists.proofs.Laws.Stores.{one_more}
use Rattle.recordings.proofs.Laws.Digits.{length_digits, digit_at}
use Rattle.recordings.proofs.digits.write_digits.Goals as goal

pub loop-k-preserved : goal.loop-k-preserved
loop-k-preserved c =
    let a = c.args in
    let t = c.loop-k in
    let n = length_digits a.constellation a.output.now a.n in
    let d = digit_at a.constellation a.output.now a.n t.k (omega arith) c.sample_at-y.ensures c.digit.ensures in
    one_more a.text.now (spec.digits a.constellation a.output.now a.n) t.k (digit_of a.constellation silence) (omega arith) t.invariant d c.put.ensures

pub returns-clause-count : goal.returns-clause-count
returns-clause-count c = let a = c.args in let n = length_digits a.constellation a.output.now a.n in omega arith

pub returns-clause-text : goal.returns-clause-text
returns-clause-text c =
    let a = c.args in
    let t = c.loop-k in
    let n = length_digits a.constellation a.output.now a.n in
    t.invariant.is ∙ ap (λ (l : List ℕ). sets a.text.now 0 l) (take_all t.k (spec.digits a.constellation a.output.now a.n) (omega arith))
