-- `timing_loop::take_mid` meets its contract: the middle is taken or left by the two tests. Assumes nothing.
use mathlib.Core.Path.{sym, ap, ◌∙◌}
use native.Mathlib.Omega.{arith}
use Rattle.timing.specs.Loop.{value_at}
use Rattle.timing.specs.Run.{line}
use Rattle.strobe_clock.specs.declared.steps.Place.{Place}
use Rattle.timing.proofs.Laws.Taken.{mid-taken, mid-too-far, mid-not-lacking}
use Rattle.timing_loop.proofs.loops.take_mid.Goals as goal

pub returns-then-at-count : goal.returns-then-at-count
returns-then-at-count g c =
    let s = g.S.Sample in
    let a = c.args in
    let l = a.l.now in
    let xs = s.form.samples l.input.now in
    let place = c.mid_position-at.ensures in
    let i = ap (λ (q : Place). q.i) place in
    let m = c.value_at-t.ensures ∙ ap (λ (q : Place). value_at s.ops (line l.hist xs) q.i q.mu) place in
    mid-taken s.ops a.p l.hist xs _ (g.met.S.Sample.laws.counts l.input.now) a.t _ (sym c.lacks.ensures ∙ c.if-lacks.true) (omega arith) m

pub returns-else-at-count : goal.returns-else-at-count
returns-else-at-count g c =
    let s = g.S.Sample in
    let a = c.args in
    let l = a.l.now in
    let i = ap (λ (q : Place). q.i) c.mid_position-at.ensures in
    mid-too-far s.ops a.p l.hist (s.form.samples l.input.now) _ (g.met.S.Sample.laws.counts l.input.now) a.t (sym c.lacks.ensures ∙ c.if-lacks.true) (omega arith)

pub returns-else-lacks : goal.returns-else-lacks
returns-else-lacks g c =
    let s = g.S.Sample in
    let a = c.args in
    let l = a.l.now in
    mid-not-lacking s.ops a.p (line l.hist (s.form.samples l.input.now)) a.t (sym c.lacks.ensures ∙ c.if-lacks.false)
