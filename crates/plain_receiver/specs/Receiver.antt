-- The receiver's set-up and calls, with the receiver as a plain record. Definitions only.
use Rattle.std.specs.Prelude.{List, Float, Ok, Err}
use Rattle.values.specs.Refusal.{number_of}
use Rattle.receiver.specs.Record as declaredReceiver
use Rattle.timing.specs.declared.params.TimingValues as declaredValues
use Rattle.receiver.specs.Record.{SetUp}
use Rattle.sample_calls.specs.Call.{Outcome}
use Rattle.values.specs.declared.counts.Counts.{Counts}
use Rattle.plain_timing.specs.declared.params.TimingValues.{TimingValues}
use Rattle.plain_receiver.specs.declared.ReceiverSetUp.{ReceiverSetUp}
use Rattle.plain_records.specs.declared.record.Receiver64.{Receiver64}
use Rattle.plain_records.specs.Records as records
use Rattle.plain_timing.specs.Params as params
use Rattle.plain_timing.specs.Complex as timing
use Rattle.plain_carrier.specs.Carrier as carrier

-- the values that a record stands for
abbrev pub values_of : TimingValues → declaredValues.TimingValues
values_of v = params.values_of v

-- R2, R18: the receiver's record is the one whose count has 64 bits; what it stands for, and which is given (A9)
abbrev pub Receiver : Type 0
Receiver = Receiver64

abbrev pub receiver_of : Receiver → declaredReceiver.Receiver
receiver_of x = records.receiver64_of x

abbrev pub record_of : declaredReceiver.Receiver → Receiver
record_of r = records.record64_of r

abbrev pub Given : Receiver → Type 0
Given x = records.Given64 x

-- L3: zeros, in the place of the receiver of a refused set-up
abbrev pub none : Receiver
none = record { timing = timing.none; carrier = carrier.none; count = 0 }

-- L3: a set-up's answer
abbrev pub set_up_of : SetUp → ReceiverSetUp
set_up_of (Ok r) = record { number = 0; receiver = record_of r }
set_up_of (Err n) = record { number = number_of n; receiver = none }

-- a call's answer, the record after it and what the lent buffers hold
abbrev pub outcome_of : Counts → Receiver → List Float → List Float → Outcome
outcome_of a x zs ys = record { number = a.number; consumed = a.consumed; produced = a.produced; receiver = receiver_of x; strobes = zs; output = ys }
