-- `tape::call` meets its contract: its input is what the samples' bytes hold. Assumes nothing.
use mathlib.Core.Path.{◌≡◌, ap, ◌∙◌}
use mathlib.Core.List.{List}
use Prim.Native.Nat.{◌+◌, ◌*◌}
use lib.ListN.{length, take}
use lib.Ieee.{Float, of_bits}
use Rattle.little_endian.specs.Samples.{stored_bytes}
use Rattle.sample_calls.specs.Call.{called}
use Rattle.tape.specs.declared.desk.Desk.TheVariants.{Both}
use Rattle.tape.specs.declared.answer.Step.TheVariants.{Done}
use Rattle.tape.specs.Reading.{sample_parts}
use Rattle.tape.specs.Steps.{places, symbol_parts, sent_of}
use Rattle.tape.proofs.Laws.Calls.{input-are}
use Rattle.tape.proofs.steps.call.Goals as goal

pub returns-clause-outcome : goal.returns-clause-outcome
unfolding of_bits
returns-clause-outcome c =
    let a = c.args in
    let e = ap (take (2 * c.read_samples-parts.result)) c.read_samples-parts.ensures.samples ∙ input-are a.bytes.now a.n c.requires.whole c.requires.few c.read_samples-parts.ensures.count in
    let sent : c.send-sent.result ≡ sent_of (length a.output.now) (called a.r (sample_parts a.bytes.now a.n) places places) = c.send-sent.ensures.sent ∙ ap (λ (xs : List Float). sent_of (length a.output.now) (called a.r xs places places)) e in
    (λ j. Done (record { desk = Both (sent j).receiver; used = 3 + 8 * a.n; written = (sent j).written }))

pub returns-clause-output : goal.returns-clause-output
unfolding of_bits
returns-clause-output c =
    let a = c.args in
    let e = ap (take (2 * c.read_samples-parts.result)) c.read_samples-parts.ensures.samples ∙ input-are a.bytes.now a.n c.requires.whole c.requires.few c.read_samples-parts.ensures.count in
    c.send-sent.ensures.output ∙ ap (λ (xs : List Float). stored_bytes (symbol_parts (called a.r xs places places)) a.output.now) e
