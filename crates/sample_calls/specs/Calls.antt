-- Q4 to Q9: a list of sample calls, each on the receiver that the call before left, and what is claimed of a second
-- list, which is the first turned k times, from a receiver whose carrier is m quarter turns on. Definitions only.
use Rattle.std.specs.Prelude.{◌≡◌, ℕ, ◌+◌, ◌*◌, ◌/◌, Bool, true, List, [], ◌∷◌, ◌++◌, length, take, drop, Float, Ok}
use Rattle.values.specs.declared.sample.C32.{C32}
use Rattle.values.specs.Samples.{samples, parts}
use Rattle.lists.specs.Each.{Each}
use Rattle.values.specs.Calls.{outcomes_by, after_by}
use Rattle.values.specs.Turn.{turns_all, AllTurned}
use Rattle.timing.specs.Calls.{SameClock}
use Rattle.constellations.specs.declared.kinds.CostasConstellation.{CostasConstellation}
use Rattle.carrier.specs.Calls.{turns_less, SameCarrier}
use Rattle.timing.specs.declared.params.TimingValues.{TimingValues}
use Rattle.carrier.specs.declared.params.CarrierValues.{CarrierValues}
use Rattle.receiver.specs.Record.{Receiver, opened, restarted, SetUpWith, Given}
use Rattle.sample_calls.specs.Call.{Outcome, called, accepts}

-- ---- which receivers the lists start from
-- Q4: a fresh receiver, whose last step was a set-up with these values or a reset
pub data Fresh (k : CostasConstellation) (t : TimingValues) (c : CarrierValues) : Receiver → Type 0 where
  just-set-up : {r : Receiver} → opened k t c ≡ Ok r → Fresh k t c r
  -- whatever it has received before
  just-reset : (r : Receiver) → Given r → SetUpWith k t c r → Fresh k t c (restarted r)

-- ---- a list of calls
-- Q5: what a sample call lends
pub record Call : Type 0 where
  pub input : List Float
  pub strobes : List Float
  pub output : List Float

-- one call, the receiver that it leaves, and whether it is not refused
abbrev pub call_of : Receiver → Call → Outcome
call_of r c = called r c.input c.strobes c.output

abbrev pub left_by : Outcome → Receiver
left_by o = o.receiver

abbrev pub whole : Call → Bool
whole c = accepts c.input c.strobes c.output

-- Q5: the outcomes of a list of calls, and the receiver after it
abbrev pub outcomes : Receiver → List Call → List Outcome
outcomes r cs = outcomes_by call_of left_by r cs

abbrev pub after : Receiver → List Call → Receiver
after r cs = after_by call_of left_by r cs

-- how many symbols the calls produced together
unfoldable pub produced_in : List Outcome → ℕ
produced_in [] = 0
produced_in (o ∷ os) = o.produced + produced_in os

-- ---- the second list, and what is claimed of it
-- Q6: d is c with its input turned k times; of a refused call only the lengths count
pub record TurnedCall (k : ℕ) (c d : Call) : Type 0 where
  pub inputs : length d.input ≡ length c.input
  pub strobes : length d.strobes ≡ length c.strobes
  pub outputs : length d.output ≡ length c.output
  pub turned : whole c ≡ true → AllTurned k (samples c.input) (samples d.input)

-- a call whose samples are turned exactly; a last f32 that has no partner stays
abbrev pub turned_call : ℕ → Call → Call
turned_call k c =
    let xs = c.input in
    record { input = parts (turns_all k (samples xs)) ++ drop (2 * (length xs / 2)) xs; strobes = c.strobes; output = c.output }

-- the strobes and the output samples that a call produced, where it wrote them
abbrev pub strobes_of : Outcome → List C32
strobes_of o = take o.produced (samples o.strobes)

abbrev pub outputs_of : Outcome → List C32
outputs_of o = take o.produced (samples o.output)

-- of one call: numbers and counts are equal (Q7), strobes are turned k times, outputs (k - m) mod 4 times (Q8)
pub record TurnedOutcome (k m : ℕ) (q r : Outcome) : Type 0 where
  pub number : r.number ≡ q.number
  pub consumed : r.consumed ≡ q.consumed
  pub produced : r.produced ≡ q.produced
  pub strobes : AllTurned k (strobes_of q) (strobes_of r)
  pub outputs : AllTurned (turns_less k m) (outputs_of q) (outputs_of r)

-- Q7, after the lists: what is equal of the two receivers, and how far apart their phases are
pub record SameReceiver (m : ℕ) (r s : Receiver) : Type 0 where
  pub count : s.count ≡ r.count
  pub clock : SameClock r.timing s.timing
  pub carrier : SameCarrier m r.carrier s.carrier

-- Q9: the one statement about two lists of calls, from the receivers r and s
pub record TurnedList (k m : ℕ) (r s : Receiver) (cs ds : List Call) : Type 0 where
  pub answers : Each (TurnedOutcome k m) (outcomes r cs) (outcomes s ds)
  pub afterwards : SameReceiver m (after r cs) (after s ds)
