-- `tape::step` meets its contract: by the command. Assumes nothing.
use mathlib.Core.Path.{refl, sym, ap, subst, ◌∙◌}
use Rattle.values.specs.declared.error.Refusal.{Refusal}
use Rattle.tape.specs.Reading.{unfinished, reading_of, byte_at}
use Rattle.tape.specs.Steps.{acted, stepped, refused, answer_of, StepGiven}
use Rattle.tape.proofs.Laws.Commands.{carrier-byte, timing-byte, samples-byte, reset-byte, other-byte}
use Rattle.tape.proofs.Laws.Steps.{behind-short, carrier-command, timing-command, samples-command, reset-command, no-command, carrier-silent, timing-silent, reset-silent, told-silent, told-on}
use Rattle.tape.proofs.steps.step.Goals as goal

pub returns-then-bytes-lt-COMMAND_END : goal.returns-then-bytes-lt-COMMAND_END
unfolding stepped reading_of
returns-then-bytes-lt-COMMAND_END c =
    let a = c.args in
    let h = told-silent a.output.now (ap (acted a.desk) (behind-short unfinished 1 a.bytes.now _ c.if-bytes-lt-COMMAND_END.true)) refl refl in
    record { outcome = h.0; output = h.1; given = tt }

pub returns-in-Ok-Carrier : goal.returns-in-Ok-Carrier
unfolding stepped
returns-in-Ok-Carrier c =
    let a = c.args in
    let l = a.bytes.now in
    let is = carrier-byte (byte_at l 0) c.in-Ok-Carrier.ensures c.in-Ok-Carrier.field-0-is in
    let h = told-silent a.output.now (ap (acted a.desk) (carrier-command l c.if-bytes-lt-COMMAND_END.false is)) (carrier-silent a.desk l) c.carrier_step.ensures.outcome in
    record { outcome = h.0; output = h.1; given = c.carrier_step.ensures.given }

pub returns-in-Ok-Timing : goal.returns-in-Ok-Timing
unfolding stepped
returns-in-Ok-Timing c =
    let a = c.args in
    let l = a.bytes.now in
    let is = timing-byte (byte_at l 0) c.in-Ok-Timing.ensures c.in-Ok-Timing.field-0-is in
    let h = told-silent a.output.now (ap (acted a.desk) (timing-command l c.if-bytes-lt-COMMAND_END.false is)) (timing-silent a.desk l) c.timing_step.ensures.outcome in
    record { outcome = h.0; output = h.1; given = c.timing_step.ensures.given }

pub returns-in-Ok-Samples : goal.returns-in-Ok-Samples
unfolding stepped
returns-in-Ok-Samples c =
    let a = c.args in
    let l = a.bytes.now in
    let is = samples-byte (byte_at l 0) c.in-Ok-Samples.ensures c.in-Ok-Samples.field-0-is in
    let h = told-on a.output.now (ap (acted a.desk) (samples-command l c.if-bytes-lt-COMMAND_END.false is)) c.samples_step.ensures.outcome c.samples_step.ensures.output in
    record { outcome = h.0; output = h.1; given = c.samples_step.ensures.given }

pub returns-in-Ok-Reset : goal.returns-in-Ok-Reset
unfolding stepped
returns-in-Ok-Reset c =
    let a = c.args in
    let l = a.bytes.now in
    let is = reset-byte (byte_at l 0) c.in-Ok-Reset.ensures c.in-Ok-Reset.field-0-is in
    let h = told-silent a.output.now (ap (acted a.desk) (reset-command l c.if-bytes-lt-COMMAND_END.false is)) (reset-silent a.desk) c.reset_step.ensures.outcome in
    record { outcome = h.0; output = h.1; given = c.reset_step.ensures.given }

pub returns-in-Err : goal.returns-in-Err
unfolding stepped
returns-in-Err c =
    let a = c.args in
    let l = a.bytes.now in
    let is = other-byte (byte_at l 0) c.in-Err.ensures in
    let h = told-silent a.output.now (ap (acted a.desk) (no-command l c.if-bytes-lt-COMMAND_END.false is.0 is.1 is.2 is.3)) refl (c.refuse.ensures ∙ ap (λ (r : Refusal). answer_of 0 (refused r 1)) is.4) in
    record { outcome = h.0; output = h.1; given = subst StepGiven (sym c.refuse.ensures) tt }
