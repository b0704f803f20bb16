-- `tape::samples_step` meets its contract: by whether the count is whole, and how large it is. Assumes nothing.
use mathlib.Core.Path.{refl, sym, ap, ◌∙◌, subst}
use native.Mathlib.Omega.{arith}
use Rattle.tape.specs.Reading.{unfinished, samples_behind, samples_read}
use Rattle.tape.specs.Steps.{acted, StepGiven}
use Rattle.tape.proofs.Laws.Steps.{behind-short, count-large, count_fits, told-silent, told-on}
use Rattle.tape.proofs.steps.samples_step.Goals as goal

pub returns-then-bytes-lt-COUNT_END : goal.returns-then-bytes-lt-COUNT_END
unfolding samples_read
returns-then-bytes-lt-COUNT_END c =
    let a = c.args in
    let h = told-silent a.output.now (ap (acted a.desk) (behind-short unfinished 3 a.bytes.now _ c.if-bytes-lt-COUNT_END.true)) refl refl in
    record { outcome = h.0; output = h.1; given = tt }

pub returns-then-n-gt-LARGEST_COUNT : goal.returns-then-n-gt-LARGEST_COUNT
returns-then-n-gt-LARGEST_COUNT c =
    let a = c.args in
    let h = told-silent a.output.now (ap (acted a.desk) (count-large a.bytes.now c.if-bytes-lt-COUNT_END.false (omega (arith, c.count_of-n.ensures.count, c.if-n-gt-LARGEST_COUNT.true)))) refl c.refuse.ensures in
    record { outcome = h.0; output = h.1; given = subst StepGiven (sym c.refuse.ensures) tt }

pub returns : goal.returns
returns c =
    let a = c.args in
    let n = c.count_of-n.ensures.count in
    let h = told-on a.output.now (ap (acted a.desk) (count_fits a.bytes.now c.if-bytes-lt-COUNT_END.false (omega (arith, n, c.if-n-gt-LARGEST_COUNT.false)) ∙ ap (samples_behind a.bytes.now) (sym n))) c.samples_on.ensures.outcome c.samples_on.ensures.output in
    record { outcome = h.0; output = h.1; given = c.samples_on.ensures.given }
