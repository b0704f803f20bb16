-- `detectors::watch` meets its contract: by the measure, a number or none. Assumes nothing.
use mathlib.Core.Path.{sym, ◌∙◌}
use lib.Ieee.{Float, of_bits, round}
use Rattle.detectors.specs.declared.lock.Lock.{Lock}
use Rattle.detectors.specs.Lock.{smoothed, lock_after, watched}
use Rattle.detectors.proofs.lock.watch.Goals as goal

-- the lock detector at a level
abbrev at : Lock → Float → Lock
at k l = record { level = l; locked = lock_after k.locked l }

pub returns-in-Some : goal.returns-in-Some
unfolding watched smoothed of_bits round
returns-in-Some c = let a = c.args in (λ j. record { level = c.flush_denormal-level.result; locked = c.hold-locked.ensures j }) ∙ (λ j. at a.k (c.flush_denormal-level.ensures j)) ∙ (λ j. watched a.k (sym c.in-Some.is j))

pub returns-in-None : goal.returns-in-None
unfolding watched
returns-in-None c = let a = c.args in λ j. watched a.k (sym c.in-None.is j)
