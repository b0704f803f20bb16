-- What the definition shows from place `produced` on is what it shows from the start; the places left count down.
use Prim.Native.Nat.{◌-◌}
use lib.ListN.{length}
use Rattle.timing.specs.Run.{line}
use Rattle.timing.proofs.Laws.Shown.{Underway}
use Rattle.timing_loop.proofs.loops.strobes.Given as goal

abbrev pub invariant-loop-produced : goal.invariant-loop-produced
invariant-loop-produced g l =
    let s = g.S.Sample in
    Underway s.ops s.form l.p (line l.l.hist (s.form.samples l.l.input.now)) l.n (s.form.count (length l.initial.output)) l.initial.t l.initial.output l.t l.output l.produced

abbrev pub decreases-loop-produced : goal.decreases-loop-produced
decreases-loop-produced g l = l.places - l.produced
