-- `timing_loop::error` meets its contract: the definition goes by the detector. Assumes nothing.
use mathlib.Core.Path.{sym, ◌∙◌}
use Rattle.timing.specs.Loop.{error_of}
use Rattle.timing_loop.proofs.loops.error.Goals as goal

pub returns-in-Gardner : goal.returns-in-Gardner
unfolding error_of
returns-in-Gardner g c =
    let a = c.args in
    let o = g.S.Sample.ops in
    let t = a.t.now in
    ◌∙◌ {b = o.gardner t.y_prev a.y t.mid} c.gardner.ensures (λ j. error_of o (sym c.in-Gardner.is j) t a.y a.d)

pub returns-in-MuellerMuller : goal.returns-in-MuellerMuller
unfolding error_of
returns-in-MuellerMuller g c =
    let a = c.args in
    let o = g.S.Sample.ops in
    let t = a.t.now in
    ◌∙◌ {b = o.mm t.d_prev a.y a.d t.y_prev} c.mm.ensures (λ j. error_of o (sym c.in-MuellerMuller.is j) t a.y a.d)
