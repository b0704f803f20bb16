-- The loop of `replay::play_lines`: so many lines are counted.
use Rattle.replay.specs.Tally.{Tallied}
use Rattle.replay.proofs.lines.play_lines.Given as goal

abbrev pub invariant-loop-count : goal.invariant-loop-count
invariant-loop-count g l = Tallied l.count l.fn.tally l.tally
