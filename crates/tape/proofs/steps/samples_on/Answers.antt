-- `tape::samples_on` meets its contract: by which loops are set up, and whether the samples are whole. Assumes nothing.
use mathlib.Core.Path.{refl, sym, ap, ◌∙◌, subst}
use Prim.Native.Nat.{◌-◌}
use lib.ListN.{length}
use Rattle.tape.specs.declared.desk.Desk.{Desk}
use Rattle.tape.specs.declared.desk.Desk.TheVariants.{Empty, Timing, Carrier}
use Rattle.tape.specs.Reading.{sample_parts, samples_end, announced, samples, samples_behind}
use Rattle.tape.specs.Steps.{acted, StepGiven}
use Rattle.tape.proofs.Laws.Steps.{behind-short, behind-whole, samples-early, told-silent, told-on}
use Rattle.tape.proofs.steps.samples_on.Goals as goal

pub returns-then-bytes-end : goal.returns-then-bytes-end
unfolding samples_behind
returns-then-bytes-end c =
    let a = c.args in
    let e = c.in-Both.is in
    let h = told-silent a.output.now (ap (acted a.desk) (behind-short announced (samples_end a.n) a.bytes.now _ c.if-bytes-end.true) ∙ ap (λ (d : Desk). acted d (announced (samples_end a.n - length a.bytes.now))) e) refl refl in
    record { outcome = h.0; output = h.1; given = tt }

pub returns-in-Empty : goal.returns-in-Empty
returns-in-Empty c =
    let a = c.args in
    let h = told-silent a.output.now (ap (λ (d : Desk). acted d (samples_behind a.bytes.now a.n)) c.in-Empty.is ∙ samples-early Empty a.bytes.now a.n (λ f. refl)) refl c.refuse.ensures in
    record { outcome = h.0; output = h.1; given = subst StepGiven (sym c.refuse.ensures) tt }

pub returns-in-Timing : goal.returns-in-Timing
returns-in-Timing c =
    let a = c.args in
    let h = told-silent a.output.now (ap (λ (d : Desk). acted d (samples_behind a.bytes.now a.n)) c.in-Timing.is ∙ samples-early (Timing c.in-Timing.field-0) a.bytes.now a.n (λ f. refl)) refl c.refuse-in-Timing.ensures in
    record { outcome = h.0; output = h.1; given = subst StepGiven (sym c.refuse-in-Timing.ensures) tt }

pub returns-in-Carrier : goal.returns-in-Carrier
returns-in-Carrier c =
    let a = c.args in
    let h = told-silent a.output.now (ap (λ (d : Desk). acted d (samples_behind a.bytes.now a.n)) c.in-Carrier.is ∙ samples-early (Carrier c.in-Carrier.field-0) a.bytes.now a.n (λ f. refl)) refl c.refuse-in-Carrier.ensures in
    record { outcome = h.0; output = h.1; given = subst StepGiven (sym c.refuse-in-Carrier.ensures) tt }

pub returns-else-bytes-end : goal.returns-else-bytes-end
unfolding samples_behind
returns-else-bytes-end c =
    let a = c.args in
    let e = c.in-Both.is in
    let h = told-on a.output.now (ap (acted a.desk) (behind-whole announced (samples_end a.n) a.bytes.now _ c.if-bytes-end.false) ∙ ap (λ (d : Desk). acted d (samples (sample_parts a.bytes.now a.n) (samples_end a.n))) e) c.call.ensures.outcome c.call.ensures.output in
    record { outcome = h.0; output = h.1; given = c.call.ensures.given }
