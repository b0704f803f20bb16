-- `costas::symbols::symbols` meets its contract: a turn of the loop is a step of the definition.
-- Assumes nothing.
use Rattle.std.proofs.Common.{ap, ◌∙◌, arith}
use Rattle.detectors.specs.Detector.{derotated}
use Rattle.costas.proofs.Laws.Loop.{reached-read, begins, goes_on, ends}
use Rattle.costas.proofs.symbols.symbols.Goals as goal

pub loop-k-init : goal.loop-k-init
loop-k-init c = begins c.args.input.now c.min-n.ensures

pub loop-k-preserved : goal.loop-k-preserved
loop-k-preserved c =
    let l = c.loop-k in
    let left = c.loop-k-test.true in
    let a = c.args in
    let x = reached-read a.input.now a.output.now l.k (let n = l.invariant.count in omega arith) c.sample_at-x.ensures in
    goes_on l.invariant left x (c.derotate-y.ensures ∙ ap (derotated _) c.interp_f32_pair-q.ensures) c.step-t.ensures c.store_sample.ensures

pub returns : goal.returns
returns c =
    let e = ends c.loop-k.invariant c.loop-k-test.false c.cos_f32_table-table.ensures in
    record { last = e.0; output = e.1 }
