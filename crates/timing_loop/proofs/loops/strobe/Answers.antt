-- `timing_loop::strobe` meets its contract: it is what its callees ensure. Assumes nothing.
use Rattle.timing.proofs.Laws.Taken.{strobed-parts}
use Rattle.timing_loop.proofs.loops.strobe.Goals as goal

pub returns : goal.returns
returns g c =
    let a = c.args in
    strobed-parts g.S.Sample.ops a.p a.t a.y _ _ _ _
    c.decision-d.ensures
    c.error.ensures
    c.advance-clock.ensures
    c.mid_left-mid_ready.ensures
