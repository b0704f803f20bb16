-- `recordings::write_lines` meets its contract. The loop's invariant: the digits before this one are laid out. Assumes
-- nothing.
use Rattle.std.proofs.Common.{◌∙◌}
use Rattle.recordings.proofs.Laws.Lines.{laying-begins, laying-full, laying-inside}
use Rattle.recordings.proofs.lines.write_lines.Goals as goal
use Rattle.recordings.proofs.lines.write_lines.Goals.{then-column-eq-LAST, else-column-eq-LAST}

pub loop-digit-init : goal.loop-digit-init
loop-digit-init c = laying-begins

pub loop-digit-preserved : goal.loop-digit-preserved
loop-digit-preserved c =
    let u = c.loop-digit.invariant in
    elim c.if-column-eq-LAST.branch [
      | then-column-eq-LAST w ↦ laying-full u c.loop-digit-test.true w.if-column-eq-LAST.true c.put.ensures (w.text-is ∙ w.put-then-column-eq-LAST.ensures) w.column-is w.count-is
      | else-column-eq-LAST w ↦ laying-inside u c.loop-digit-test.true w.if-column-eq-LAST.false (w.text-is ∙ c.put.ensures) w.column-is w.count-is
    ]
