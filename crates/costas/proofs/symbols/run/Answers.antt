-- `costas::run` meets its contract: an odd buffer is refused, then lengths that differ, and else the call is what
-- `carry` ensures. Assumes nothing.
use Rattle.std.proofs.Common.{◌≡◌, true, arith, sym, ap, ◌∙◌}
use Rattle.values.specs.Buffers.{odd_either}
use Rattle.values.proofs.Laws.Buffers.{odd-input, odd-output, both-even}
use Rattle.carrier.proofs.Laws.Refused.{called-odd, called-uneven, called-done}
use Rattle.carrier.proofs.Laws.Carried.{carried-even}
use Rattle.costas.specs.declared.symbols.Ran.{Ran}
use Rattle.costas.specs.Answered.{answered}
use Rattle.costas.proofs.symbols.run.Goals as goal
use Rattle.costas.proofs.symbols.run.Goals.{then-input-eq1-via-then-input-eq1, then-input-eq1-via-else-input-eq1+then-output-eq1}

pub returns-then-input-eq1-clause-outcome : goal.returns-then-input-eq1-clause-outcome
returns-then-input-eq1-clause-outcome c =
    let xs = c.args.input.now in
    let ys = c.args.output.now in
    let odd : odd_either xs ys ≡ true = elim c.then-input-eq1.branch [
      | then-input-eq1-via-then-input-eq1 w ↦ odd-input xs ys w.if-input-eq1.true
      | then-input-eq1-via-else-input-eq1+then-output-eq1 w ↦ odd-output xs ys w.if-output-eq1.true
    ] in
    ap (λ (r : Ran). answered r ys) c.refused.ensures ∙ sym (called-odd c.args.s xs ys odd)

pub returns-then-input-output-clause-outcome : goal.returns-then-input-output-clause-outcome
returns-then-input-output-clause-outcome c =
    let xs = c.args.input.now in
    let ys = c.args.output.now in
    let even = both-even xs ys c.if-input-eq1.false c.if-output-eq1.false in
    ap (λ (r : Ran). answered r ys) c.refused-then-input-output.ensures ∙ sym (called-uneven c.args.s xs ys even c.if-input-output.true)

pub returns-clause-outcome : goal.returns-clause-outcome
returns-clause-outcome c =
    let xs = c.args.input.now in
    let ys = c.args.output.now in
    let even = both-even xs ys c.if-input-eq1.false c.if-output-eq1.false in
    let equal = c.if-input-output.false in
    c.carry-state.ensures.outcome ∙ carried-even c.args.s xs ys (omega arith) equal ∙ sym (called-done c.args.s xs ys even equal)
