-- `receiver::set_up` meets its contract: by what timing's set-up answers, and then the carrier's. Assumes nothing.
use Rattle.std.specs.Prelude.{Ok}
use Rattle.std.proofs.Common.{rules}
use mathlib.Core.Path.{sym, ap, ◌∙◌}
use Rattle.receiver.specs.Record.{Receiver}
use Rattle.receiver.proofs.Laws.Setup.{with_timing, joined_answer, tuned_by, opened-joined, after-ready, after-refused}
use Rattle.receiver.proofs.record.set_up.Goals as goal

pub returns-in_err-timing-clause-outcome : goal.returns-in_err-timing-clause-outcome
returns-in_err-timing-clause-outcome c =
    let a = c.args in
    let refused = opened-joined a.constellation a.t a.c ∙ after-refused c.in_err-timing.field-0.0 (tuned_by a.t) _ c.in_err-timing.ensures.outcome in
    search rules

pub returns-in_err-carrier-clause-outcome : goal.returns-in_err-carrier-clause-outcome
returns-in_err-carrier-clause-outcome c =
    let a = c.args in
    let refused =
    opened-joined a.constellation a.t a.c
    ∙ ap (joined_answer (tuned_by a.t)) (sym c.set_up-2.ensures.outcome)
    ∙ after-ready c.in_ok-timing.timing (tuned_by a.t) c.set_up-2.result c.in_ok-timing.ensures.outcome
    ∙ ap (with_timing c.in_ok-timing.timing) c.in_err-carrier.was in
    search rules

pub returns-clause-outcome : goal.returns-clause-outcome
returns-clause-outcome c =
    let a = c.args in
    ap (λ (r : Receiver). Ok r) c.join.ensures.state
    ∙ sym (opened-joined a.constellation a.t a.c
    ∙ ap (joined_answer (tuned_by a.t)) (sym c.set_up-2.ensures.outcome)
    ∙ after-ready c.in_ok-timing.timing (tuned_by a.t) c.set_up-2.result c.in_ok-timing.ensures.outcome
    ∙ ap (with_timing c.in_ok-timing.timing) c.in_ok-carrier.was)
