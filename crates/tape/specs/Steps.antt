-- O4 to O9: what is done with a command as soon as it is read, and what it puts out. Definitions only.
use Rattle.std.specs.Prelude.{ℕ, ◌*◌, true, List, [], T, length, take, replicate, Float, Ok, Err}
use Rattle.ieee.specs.Notation.{zero₀}
use Rattle.values.specs.declared.error.Refusal.{Refusal}
use Rattle.values.specs.declared.error.Refusal.TheVariants.{Undefined, Early}
use Rattle.little_endian.specs.Samples.{whole_samples}
use Rattle.complex_sync.specs.Views.{SetUp as TimingSetUp}
use Rattle.carrier.specs.State.{SetUp as CarrierSetUp}
use Rattle.receiver.specs.Record.{Receiver, restarted}
use Rattle.receiver.specs.Loops.{timing_opened, carrier_opened}
use Rattle.sample_calls.specs.Call.{Outcome, called}
use Rattle.tape.specs.declared.desk.Desk.{Desk}
use Rattle.tape.specs.declared.desk.Desk.TheVariants.{Empty, Timing, Carrier, Both}
use Rattle.tape.specs.declared.answer.Step.{Step}
use Rattle.tape.specs.declared.answer.Step.TheVariants.{Wants, Done, Refused}
use Rattle.tape.specs.declared.steps.Sent.{Sent}
use Rattle.tape.specs.Reading.{Reading, unfinished, undefined, carrier, timing, announced, samples, reset, reading_of}
use Rattle.tape.specs.Desk.{with_timing, with_carrier, Given}

-- what comes of the bytes read so far
pub data Stepped : Type 0 where
  -- the next field wants so many bytes more
  wants : ℕ → Stepped
  -- the command is carried out: the desk after it, how many bytes it has, and the parts of its symbols
  done : Desk → ℕ → List Float → Stepped
  -- it is refused, with so many of its bytes read
  refused : Refusal → ℕ → Stepped

-- O4, O7: a set-up, by the answer of the receiver's checks for its own loop
abbrev pub carrier_answered : Desk → CarrierSetUp → Stepped
carrier_answered d (Ok c) = done (with_carrier d c) 26 []
carrier_answered d (Err n) = refused n 26

abbrev pub timing_answered : Desk → TimingSetUp → Stepped
timing_answered d (Ok s) = done (with_timing d s) 42 []
timing_answered d (Err n) = refused n 42

-- E11: what needs both loops, behind so many bytes
abbrev pub with_both : Desk → ℕ → (Receiver → Stepped) → Stepped
with_both Empty read f = refused Early read
with_both (Timing s) read f = refused Early read
with_both (Carrier c) read f = refused Early read
with_both (Both r) read f = f r

-- O8: one call of the receiver, with 2,048 places
abbrev pub places : List Float
places = replicate 4096 zero₀

-- the parts of the symbols that a call produced
abbrev pub symbol_parts : Outcome → List Float
symbol_parts o = take (2 * o.produced) o.output

abbrev pub sampled : Outcome → ℕ → Stepped
sampled o end = done (Both o.receiver) end (symbol_parts o)

-- what is done with what was read
abbrev pub acted : Desk → Reading → Stepped
acted d (unfinished k) = wants k
acted d (undefined n) = refused Undefined n
acted d (carrier c v) = carrier_answered d (carrier_opened c v)
acted d (timing v) = timing_answered d (timing_opened v)
acted d (announced k) = with_both d 3 (λ r. wants k)
acted d (samples xs end) = with_both d 3 (λ r. sampled (called r xs places places) end)
acted d reset = with_both d 1 (λ r. done (Both (restarted r)) 1 [])

-- O3: the command at the front of some bytes
unfoldable pub stepped : Desk → List ℕ → Stepped
stepped d l = acted d (reading_of l)

-- ---- what the code answers: where n bytes are lent for the symbols, as many whole ones are written
abbrev pub answer_of : ℕ → Stepped → Step
answer_of n (wants k) = Wants k
answer_of n (done d used xs) = Done (record { desk = d; used = used; written = 8 * whole_samples n (length xs) })
answer_of n (refused r read) = Refused (record { reason = r; read = read })

-- the parts of the symbols that are put out
abbrev pub symbols_of : Stepped → List Float
symbols_of (wants k) = []
symbols_of (done d used xs) = xs
symbols_of (refused r read) = []

-- the receiver after a call, and how many bytes of its symbols are written
abbrev pub sent_of : ℕ → Outcome → Sent
sent_of n o = record { receiver = o.receiver; written = 8 * whole_samples n (length (symbol_parts o)) }

-- A9
abbrev pub StepGiven : Step → Type 0
StepGiven (Wants k) = T true
StepGiven (Done c) = Given c.desk
StepGiven (Refused s) = T true
