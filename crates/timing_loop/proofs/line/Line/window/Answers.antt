-- `Line::window` meets its contract: past the history stand the input's samples. Assumes nothing.
use mathlib.Core.Path.{◌∙◌}
use Prim.Native.Nat.{◌+◌, ◌-◌}
use native.Mathlib.Omega.{arith}
use Rattle.timing.proofs.Laws.Line.{past-history}
use Rattle.timing_loop.proofs.line.Line.window.Goals as goal

pub returns-else-i-le-HIST : goal.returns-else-i-le-HIST
returns-else-i-le-HIST g c =
    let s = g.S.Sample in
    let l = c.args.self.now in
    let i = c.args.i in
    let k = i - 3 in
    let past = past-history l.hist (s.form.samples l.input.now) s.ops.zero in
    let w = c.sample_at.ensures ∙ past (i - 1) (k - 1) (omega arith) in
    let x = c.sample_at-else-i-le-HIST.ensures ∙ past i k (omega arith) in
    let y = c.sample_at-else-i-le-HIST-2.ensures ∙ past (i + 1) (k + 1) (omega arith) in
    let z = c.sample_at-else-i-le-HIST-3.ensures ∙ past (i + 2) (k + 2) (omega arith) in
    λ j. record { xm1 = w j; x0 = x j; x1 = y j; x2 = z j }
