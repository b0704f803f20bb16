-- `run` meets its contract: an odd buffer is refused, and else the call is what `recover` ensures. Assumes nothing.
use mathlib.Core.Path.{◌≡◌, sym, ◌∙◌, subst}
use mathlib.Core.Bool.{true}
use Rattle.values.specs.declared.sample.C32.{C32}
use Rattle.values.specs.Buffers.{odd_either}
use Rattle.values.proofs.Laws.Buffers.{odd-input, odd-output, both-even}
use Rattle.timing.specs.Run.{Given, Outcome}
use Rattle.timing.proofs.Laws.Run.{called_complex-refused, called_complex-done, called_complex-given}
use Rattle.complex_sync.proofs.loops.run.Goals as goal
use Rattle.complex_sync.proofs.loops.run.Goals.{then-input-eq1-via-then-input-eq1, then-input-eq1-via-else-input-eq1+then-output-eq1}

pub returns-then-input-eq1 : goal.returns-then-input-eq1
returns-then-input-eq1 c =
    let a = c.args in
    let xs = a.input.now in
    let ys = a.output.now in
    let odd : odd_either xs ys ≡ true = elim c.then-input-eq1.branch [
      | then-input-eq1-via-then-input-eq1 w ↦ odd-input xs ys w.if-input-eq1.true
      | then-input-eq1-via-else-input-eq1+then-output-eq1 w ↦ odd-output xs ys w.if-output-eq1.true
    ] in
    record { outcome = sym (called_complex-refused a.s xs ys odd); given = c.requires }

pub returns : goal.returns
returns c =
    let s = c in
    let xs = s.args.input.now in
    let ys = s.args.output.now in
    let even = both-even xs ys c.if-input-eq1.false c.if-output-eq1.false in
    let e = c.recover-done.ensures.outcome ∙ sym (called_complex-done s.args.s xs ys even) in
    record { outcome = e; given = subst (λ (r : Outcome C32). Given r.state) (sym e) (called_complex-given s.args.s xs ys s.requires) }
