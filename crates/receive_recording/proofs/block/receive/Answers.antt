-- `receive_recording::block::receive` meets its contract. The loop's invariant: what the definition makes of the rest
-- of the block is what it makes of the whole. Assumes nothing.
use Rattle.std.proofs.Common.{◌∙◌, arith}
use Rattle.receive_recording.proofs.Laws.Block.{ends-full, ends-silent, ends-whole, goes_on}
use Rattle.receive_recording.proofs.block.receive.Goals as goal
use Rattle.receive_recording.proofs.block.receive.Goals.{then-called-eq0-via-then-called-eq0, then-called-eq0-via-else-called-eq0+then-called-whole}

pub returns-then-called-eq0-clause-outcome : goal.returns-then-called-eq0-clause-outcome
returns-then-called-eq0-clause-outcome g c =
    let u = c.loop-made.invariant in
    let called = c.in_ok-called.ensures.outcome in
    elim c.then-called-eq0.branch [
      | then-called-eq0-via-then-called-eq0 w ↦ c.from.ensures ∙ ends-silent u (omega arith) called w.if-called-eq0.true
      | then-called-eq0-via-else-called-eq0+then-called-whole w ↦ c.from.ensures ∙ ends-whole u (omega arith) called w.if-called-eq0.false w.if-called-whole.true
    ]

pub loop-made-preserved : goal.loop-made-preserved
loop-made-preserved g c =
    let called = c.in_ok-called.ensures in
    goes_on c.loop-made.invariant (omega arith) called.outcome c.if-called-eq0.false c.if-called-whole.false called.given (omega arith)

pub returns-clause-outcome : goal.returns-clause-outcome
returns-clause-outcome g c = ends-full c.loop-made.invariant (omega arith)
