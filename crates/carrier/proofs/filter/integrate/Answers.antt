-- `carrier::integrate` meets its contract: inside the limit and above the threshold nothing changes, and else the
-- code is the definition. Assumes nothing.
use lib.Ieee.{of_bits, round}
use Rattle.carrier.proofs.Laws.Untouched.{untouched-inside}
use Rattle.carrier.proofs.filter.integrate.Goals as goal

pub returns-then-a : goal.returns-then-a
unfolding of_bits round
returns-then-a c = let a = c.args in untouched-inside a.t a.limit c.size-a.ensures c.if-a-limit.true c.if-a.true
