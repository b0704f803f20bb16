-- `Line::at` meets its contract: past the history stand the input's samples. Assumes nothing.
use mathlib.Core.Path.{◌∙◌}
use Prim.Native.Nat.{◌-◌}
use native.Mathlib.Omega.{arith}
use Rattle.timing.proofs.Laws.Line.{past-history}
use Rattle.timing_loop.proofs.line.Line.at.Goals as goal

pub returns-in_default : goal.returns-in_default
returns-in_default g c =
    let s = g.S.Sample in
    let l = c.args.self.now in
    let j = c.args.j in
    c.sample_at.ensures ∙ past-history l.hist (s.form.samples l.input.now) s.ops.zero j (j - 3) (omega arith)
