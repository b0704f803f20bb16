-- `strobes` meets its contract. The invariant: what the definition shows from here is what it shows from the start.
-- Assumes nothing.
use mathlib.Core.Path.{ap, ◌∙◌}
use mathlib.Core.Bool.{not}
use native.Mathlib.Omega.{arith}
use Rattle.timing.proofs.Laws.Shown.{turn-window, turn-strobe, goes_on, ends-full, ends-stopped}
use Rattle.timing_loop.proofs.loops.strobes.Goals.{else-loop-produced-test, then-loop-produced-test+then-not-can_strobe}
use Rattle.timing_loop.proofs.loops.strobes.Goals as goal

pub value_at-y-requires : goal.value_at-y-requires
value_at-y-requires g c =
    let n = c.count-n.ensures in
    let h = turn-window g.met.S.Sample.laws c.loop-produced.invariant c.take_mid-t.ensures c.lacks.ensures c.can_strobe.ensures (ap not c.if-not-can_strobe.false) in
    (h.0, omega arith)

pub strobe-t-requires : goal.strobe-t-requires
strobe-t-requires g c =
    turn-strobe g.met.S.Sample.laws c.loop-produced.invariant c.take_mid-t.ensures c.lacks.ensures c.can_strobe.ensures (ap not c.if-not-can_strobe.false)

pub loop-produced-preserved : goal.loop-produced-preserved
loop-produced-preserved g c =
    let q = c.count-places.ensures in
    goes_on g.met.S.Sample.laws c.loop-produced.invariant c.take_mid-t.ensures c.lacks.ensures c.can_strobe.ensures (omega arith) (ap not c.if-not-can_strobe.false)
    c.value_at-y.ensures c.strobe-t.ensures c.store_sample.ensures

pub returns : goal.returns
returns g c =
    let q = c.count-places.ensures in
    elim c.loop-produced-test.branch [
      | else-loop-produced-test w ↦ let e = ends-full g.met.S.Sample.laws c.loop-produced.invariant (let k = w.loop-produced-test.false in omega arith) in record { last = w.t-is ∙ e.0; produced = e.1.0; output = e.1.1 }
      | then-loop-produced-test+then-not-can_strobe w ↦ let e = ends-stopped g.met.S.Sample.laws c.loop-produced.invariant w.take_mid-t.ensures w.lacks.ensures w.can_strobe.ensures (let k = w.loop-produced-test.true in omega arith) (ap not w.if-not-can_strobe.true) in record { last = w.t-is ∙ e.0; produced = e.1.0; output = e.1.1 }
    ]
