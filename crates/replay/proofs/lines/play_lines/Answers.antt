-- `replay::play_lines` counts each line that it plays. Assumes nothing.
use Rattle.replay.specs.Tally.{none}
use Rattle.replay.proofs.Laws.Tallied.{tallied-on}
use Rattle.replay.proofs.lines.play_lines.Goals as goal

pub loop-count-init : goal.loop-count-init
loop-count-init g c = none

pub loop-count-preserved : goal.loop-count-preserved
loop-count-preserved g c = tallied-on c.loop-count.invariant c.play_line.ensures
