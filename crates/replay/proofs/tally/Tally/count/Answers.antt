-- `replay::tally::Tally::count` meets its contract, by whether the line agrees. Assumes nothing.
use Rattle.std.proofs.Common.{rules}
use Rattle.replay.proofs.Laws.Tallied.{line-tallied}
use Rattle.replay.proofs.tally.Tally.count.Goals as goal

pub returns-then-not-agrees-clause-tallied : goal.returns-then-not-agrees-clause-tallied
returns-then-not-agrees-clause-tallied c = line-tallied c.args.place c.args.agrees (search rules)

pub returns-else-not-agrees-clause-tallied : goal.returns-else-not-agrees-clause-tallied
returns-else-not-agrees-clause-tallied c = line-tallied c.args.place c.args.agrees (search rules)
