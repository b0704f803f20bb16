-- The original's `Internal` errors never occur (A11), and the position between calls has a bound (T23):
-- each of its checks asks of a place what a running clock gives. Assumes nothing.
use Rattle.std.proofs.Common.{ℕ, ◌+◌, ◌-◌, ◌<◌, ◌≤◌, Bool, true, false, T, arith}
use Rattle.timing.specs.declared.params.Params.{Params}
use Rattle.timing.specs.declared.clock.Clock.{Clock}
use Rattle.timing.specs.Clock.{mid_index}
use Rattle.timing.specs.Given.{Running}
use Rattle.timing.specs.Inside.{Inside}
use Rattle.timing.proofs.Laws.Clock.{running-able, running-pending}

pub inside : (p : Params) (c : Clock) (mid : Bool) (n : ℕ) → Running p c mid n → Inside p c mid n
inside p c mid n g =
    record {
      middle = middle-in mid g;
      strobe = g.first;
      next = λ h k e E. (running-able p c mid n g h k e E).room;
      pending = (running-pending p c mid n g).0;
      history = omega arith;
    }
  where
    middle-in : (mid : Bool) → Running p c mid n → T mid → (1 ≤ mid_index c) × (mid_index c ≤ c.i)
    middle-in true g l = running-pending p c true n g
    middle-in false g l = absurd l

-- T24, of `window` and `at`: a window whose place has a sample before it and two after it lies in the samples
pub window-inside : (len i j : ℕ) → 1 ≤ i → i + 2 < len → j < 4 → i - 1 + j < len
window-inside len i j h k l = omega arith

-- T23: the position between calls. The original has been seen to reach this bound (docs/DIFFERENCES.md)
pub position-bound : (p : Params) (c : Clock) (mid : Bool) → Running p c mid 0 → c.i ≤ 1312501
position-bound p c mid g = g.far
