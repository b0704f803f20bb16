-- Q10, for the carrier alone: a list of calls, each on the state that the call before left, and what is claimed of a
-- second list, which is the first turned k times. Definitions only.
use Rattle.std.specs.Prelude.{◌≡◌, ℕ, ◌+◌, ◌-◌, ◌%◌, Bool, List}
use Rattle.ieee.specs.Alike.{Alike}
use Rattle.values.specs.Samples.{samples}
use Rattle.lists.specs.Each.{Each}
use Rattle.values.specs.Calls.{outcomes_by, after_by}
use Rattle.values.specs.Turn.{AllTurned}
use Rattle.values.specs.TurnedCall.{Call}
use Rattle.mix.specs.Quarter.{quarters_on}
use Rattle.carrier.specs.declared.state.CostasState.{CostasState}
use Rattle.carrier.specs.Run.{Outcome, called, accepts}

-- one call, the state that it leaves, and whether it is not refused
abbrev pub call_of : CostasState → Call → Outcome
call_of s c = called s c.input c.output

abbrev pub left_by : Outcome → CostasState
left_by r = r.state

abbrev pub whole : Call → Bool
whole c = accepts c.input c.output

-- the outcomes of a list of calls, and the state after it
abbrev pub outcomes : CostasState → List Call → List Outcome
outcomes s cs = outcomes_by call_of left_by s cs

abbrev pub after : CostasState → List Call → CostasState
after s cs = after_by call_of left_by s cs

-- Q8: how often an output sample is turned, (k - m) mod 4
abbrev pub turns_less : ℕ → ℕ → ℕ
turns_less k m = (k + (4 - m)) % 4

-- of one call: the numbers are equal (Q7), and each output sample is turned j times (Q8)
pub record TurnedOutcome (j : ℕ) (q r : Outcome) : Type 0 where
  pub number : r.number ≡ q.number
  pub turned : q.number ≡ 0 → AllTurned j (samples q.output) (samples r.output)

-- Q7, after the lists: frequency, level and lock are alike, and the second phase is m quarters on
pub record SameCarrier (m : ℕ) (s t : CostasState) : Type 0 where
  pub frequency : Alike t.track.nco.freq s.track.nco.freq
  pub level : Alike t.track.lock.level s.track.lock.level
  pub lock : t.track.lock.locked ≡ s.track.lock.locked
  pub phase : t.track.nco.phase ≡ quarters_on m s.track.nco.phase

-- Q10: the one statement about two lists of calls, from the states s and t
pub record TurnedList (k m : ℕ) (s t : CostasState) (cs ds : List Call) : Type 0 where
  pub answers : Each (TurnedOutcome (turns_less k m)) (outcomes s cs) (outcomes t ds)
  pub carriers : SameCarrier m (after s cs) (after t ds)
