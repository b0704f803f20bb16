-- `detectors::lock::hold` meets its contract: by the two tests. Assumes nothing.
use mathlib.Core.Path.{sym}
use mathlib.Core.Bool.{Bool, true, false, cond}
use lib.Ieee.{of_bits, round, lt, binary32}
use Rattle.ieee.specs.Notation.{decimal}
use Rattle.detectors.specs.Lock.{lock_after}
use Rattle.detectors.proofs.lock.hold.Goals as goal

-- the two tests as the definition has them
abbrev picked : Bool → Bool → Bool → Bool
picked was on off = cond on true (cond off false was)

pub returns-then-level : goal.returns-then-level
unfolding lock_after of_bits round
returns-then-level c = let a = c.args in λ j. picked a.was (sym c.if-level.true j) (lt a.level (decimal binary32 3 10))

pub returns-then-level-2 : goal.returns-then-level-2
unfolding lock_after of_bits round
returns-then-level-2 c = let a = c.args in λ j. picked a.was (sym c.if-level.false j) (sym c.if-level-2.true j)

pub returns-else-level-2 : goal.returns-else-level-2
unfolding lock_after of_bits round
returns-else-level-2 c = let a = c.args in λ j. picked a.was (sym c.if-level.false j) (sym c.if-level-2.false j)
