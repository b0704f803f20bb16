-- A recording cut into sample calls, each handed what the last one left unconsumed and then its own block (B3):
-- what the calls give together. Definitions only.
use Rattle.std.specs.Prelude.{◌≡◌, ℕ, suc, ◌+◌, ◌*◌, ◌/◌, ◌≤◌, ◌<◌, true, cond, List, [], ◌∷◌, ◌++◌, map, T, length, drop, replicate, Float}
use Rattle.values.specs.declared.sample.C32.{C32}
use Rattle.values.specs.Samples.{samples}
use Rattle.timing.specs.Sample.{complex}
use Rattle.receiver.specs.Record.{Receiver}
use Rattle.sample_calls.specs.Call.{Outcome, called, accepts}
use Rattle.sample_calls.specs.Calls.{Call, whole, strobes_of, outputs_of}
use Rattle.blocks.specs.Instants.{Instant, later, instants}

-- the receiver between two calls, and the samples that it was handed and has not consumed
pub record Waiting : Type 0 where
  pub receiver : Receiver
  pub rest : List Float

-- before the recording starts
abbrev pub start : Receiver → Waiting
start r = record { receiver = r; rest = [] }

-- a call's input is its own block; it is handed what the last one left first
abbrev pub handed : Waiting → Call → List Float
handed w c = w.rest ++ c.input

abbrev pub call_on : Waiting → Call → Outcome
call_on w c = called w.receiver (handed w c) c.strobes c.output

-- what a call leaves: a refused one all that it was handed
abbrev pub waits_after : Waiting → Call → Waiting
waits_after w c = let o = call_on w c in record { receiver = o.receiver; rest = drop (2 * o.consumed) (handed w c) }

-- ---- what is heard
-- B3: the strobes and the outputs, one after the other; the instants of the symbols, counted from the first sample;
-- the two counts; and the record after it, with its symbol count
pub record Heard : Type 0 where
  pub strobes : List C32
  pub outputs : List C32
  pub instants : List Instant
  pub consumed : ℕ
  pub produced : ℕ
  pub receiver : Receiver

-- in a call
abbrev pub instants_on : Waiting → Call → List Instant
instants_on w c = cond (accepts (handed w c) c.strobes c.output) (instants complex w.receiver.timing (samples (handed w c)) (length c.strobes / 2)) []

abbrev pub heard_on : Waiting → Call → Heard
heard_on w c = let o = call_on w c in record { strobes = strobes_of o; outputs = outputs_of o; instants = instants_on w c; consumed = o.consumed; produced = o.produced; receiver = o.receiver }

-- first q and then h, whose instants are counted from the first sample that q did not consume
abbrev pub joined : Heard → Heard → Heard
joined q h = record {
  strobes = q.strobes ++ h.strobes;
  outputs = q.outputs ++ h.outputs;
  instants = q.instants ++ map (later q.consumed) h.instants;
  consumed = q.consumed + h.consumed;
  produced = q.produced + h.produced;
  receiver = h.receiver;
}

-- before any call
abbrev pub unheard : Receiver → Heard
unheard r = record { strobes = []; outputs = []; instants = []; consumed = 0; produced = 0; receiver = r }

-- ---- a list of calls
-- the recording: the blocks one after the other
unfoldable pub recorded : List Call → List Float
recorded [] = []
recorded (c ∷ cs) = c.input ++ recorded cs

-- B3: what the calls give together
unfoldable pub heard : Waiting → List Call → Heard
heard w [] = unheard w.receiver
heard w (c ∷ cs) = joined (heard_on w c) (heard (waits_after w c) cs)

-- the receiver after them, and what is left unconsumed
unfoldable pub waits : Waiting → List Call → Waiting
waits w [] = w
waits w (c ∷ cs) = waits (waits_after w c) cs

abbrev pub left : Receiver → List Call → List Float
left r cs = (waits (start r) cs).rest

-- ---- when all is taken
-- each call has places enough that it takes all that it is handed
unfoldable pub TakesAll : Waiting → List Call → Type 0
TakesAll w [] = T true
TakesAll w (c ∷ cs) = (2 * (call_on w c).consumed ≡ length (handed w c)) × TakesAll (waits_after w c) cs

-- B4: by their lengths alone: each call's buffers fit, and have more places than its block has samples
unfoldable pub Roomy : List Call → Type 0
Roomy [] = T true
Roomy (c ∷ cs) = (whole c ≡ true) × ((length c.input / 2 < length c.strobes / 2) × Roomy cs)

-- B5: what is left is handed again, n times, with places in buffers as long as zs and ys
abbrev pub again : ℕ → List Float → List Float → List Call
again n zs ys = replicate n (record { input = []; strobes = zs; output = ys })

-- B5: as often as the recording has samples, and once more
abbrev pub often_enough : List Call → ℕ
often_enough cs = suc (length (recorded cs) / 2)

-- B5: the buffers fit, and have a place
pub record APlace (zs ys : List Float) : Type 0 where
  pub fits : accepts [] zs ys ≡ true
  pub place : 1 ≤ length zs / 2
