-- `recover` meets its contract: what the loop and the end give, put together. Assumes nothing.
use mathlib.Core.Path.{sym, ◌∙◌, subst}
use lib.ListN.{length}
use Rattle.timing.specs.Loop.{track_back}
use Rattle.timing.specs.Run.{Given, Outcome}
use Rattle.timing.proofs.Laws.Run.{ran-given}
use Rattle.timing.proofs.Laws.End.{end-asks, end_back, ends-done}
use Rattle.timing_loop.proofs.loops.recover.Goals as goal

pub consumed-k-requires : goal.consumed-k-requires
consumed-k-requires g c =
    let s = g.S.Sample in
    let a = c.args in
    let counts = g.met.S.Sample.laws.counts a.input.now ∙ sym c.count.ensures in
    end-asks s.ops a.s (s.form.samples a.input.now) (s.form.count (length a.output.now)) c.count.result counts c.lacks.ensures c.strobes-got.ensures.last c.requires

pub overflow_sub-i : goal.overflow_sub-i
overflow_sub-i g c =
    let s = g.S.Sample in
    let a = c.args in
    let counts = g.met.S.Sample.laws.counts a.input.now ∙ sym c.count.ensures in
    end_back s.ops a.s (s.form.samples a.input.now) (s.form.count (length a.output.now)) c.count.result counts c.lacks.ensures c.strobes-got.ensures.last c.requires c.consumed-k.ensures

pub returns : goal.returns
unfolding track_back
returns g c =
    let s = g.S.Sample in
    let a = c.args in
    let xs = s.form.samples a.input.now in
    let places = s.form.count (length a.output.now) in
    let counts = g.met.S.Sample.laws.counts a.input.now ∙ sym c.count.ensures in
    let got = c.strobes-got.ensures in
    let e = ends-done s.ops a.s xs places c.count.result counts c.lacks.ensures s.form a.output.now (got.last, (got.produced, got.output)) c.consumed-k.ensures c.hist_at-kept.ensures in
    record { outcome = e; given = subst (λ (r : Outcome _). Given r.state) (sym e) (ran-given s.ops a.s xs places c.requires) }
