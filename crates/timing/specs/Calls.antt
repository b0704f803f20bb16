-- Turned recordings for the complex timing loop alone (Q10): a list of calls, each on the state that the last one
-- left, and what it means that a second list is the first turned k times. Definitions only.
use Rattle.std.specs.Prelude.{◌≡◌, ℕ, Bool, not, List, take}
use Rattle.ieee.specs.Alike.{Alike}
use Rattle.values.specs.declared.sample.C32.{C32}
use Rattle.values.specs.Samples.{samples}
use Rattle.lists.specs.Each.{Each}
use Rattle.values.specs.Calls.{outcomes_by, after_by}
use Rattle.values.specs.Turn.{AllTurned}
use Rattle.values.specs.Buffers.{odd_either}
use Rattle.values.specs.TurnedCall.{Call}
use Rattle.timing.specs.Clock.{next_strobe}
use Rattle.timing.specs.Run.{Sync, Outcome, called_complex}

-- one call, and the state that it leaves
abbrev pub call_of : Sync C32 → Call → Outcome C32
call_of s c = called_complex s c.input c.output

abbrev pub left_by : Outcome C32 → Sync C32
left_by r = r.state

-- the outcomes of a list of calls, and the state after it
abbrev pub outcomes : Sync C32 → List Call → List (Outcome C32)
outcomes s cs = outcomes_by call_of left_by s cs

abbrev pub after : Sync C32 → List Call → Sync C32
after s cs = after_by call_of left_by s cs

-- which calls are not refused
abbrev pub whole : Call → Bool
whole c = not (odd_either c.input c.output)

-- the strobes that a call produced, where it wrote them
abbrev pub strobes : Outcome C32 → List C32
strobes r = take r.produced (samples r.output)

-- Q7, Q8: of two calls, the number and the counts are the same, and the strobes are turned k times
pub record TurnedOutcome (k : ℕ) (q r : Outcome C32) : Type 0 where
  pub number : r.number ≡ q.number
  pub consumed : r.consumed ≡ q.consumed
  pub produced : r.produced ≡ q.produced
  pub turned : AllTurned k (strobes q) (strobes r)

-- Q7: next strobe and pace after two lists of calls are alike
pub record SameClock (s t : Sync C32) : Type 0 where
  pub instant : Alike (next_strobe t.track.clock) (next_strobe s.track.clock)
  pub pace : Alike t.track.clock.omega s.track.clock.omega

-- Q10: the whole statement about two lists of calls, from the states s and t
pub record TurnedList (k : ℕ) (s t : Sync C32) (cs ds : List Call) : Type 0 where
  pub answers : Each (TurnedOutcome k) (outcomes s cs) (outcomes t ds)
  pub clocks : SameClock (after s cs) (after t ds)
