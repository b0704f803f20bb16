-- `receiver_replay::counts::count` counts the line, and a run's second answer for the same line. Assumes nothing.
use Rattle.replay.proofs.Laws.Tallied.{answer-tallied}
use Rattle.receiver_replay.proofs.counts.count.Goals as goal

pub returns-then-letter-eq114 : goal.returns-then-letter-eq114
returns-then-letter-eq114 g c = answer-tallied 4 c.args.turned c.count_line.ensures.tallied c.count_line-then-letter-eq114.ensures.counted
