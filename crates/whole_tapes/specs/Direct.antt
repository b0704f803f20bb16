-- O11: a tape as a list of commands, which is found from its bytes alone, and the same commands made directly as the
-- receiver's own calls: `opened`, `replaced_timing`, `replaced_carrier`, `called`, `restarted`. Definitions only.
use Rattle.std.specs.Prelude.{cond, List, [], ◌∷◌, ◌++◌, ℕ, zero, suc, eqb, length, drop, Float, Ok, Err}
use Rattle.values.specs.declared.error.Refusal.{Refusal}
use Rattle.values.specs.declared.error.Refusal.TheVariants.{Undefined, Cut, Early}
use Rattle.values.specs.Refusal.{number_of}
use Rattle.little_endian.specs.Samples.{bytes}
use Rattle.complex_sync.specs.Views.{SetUp as TimingSetUp}
use Rattle.constellations.specs.declared.kinds.CostasConstellation.{CostasConstellation}
use Rattle.carrier.specs.State.{SetUp as CarrierSetUp}
use Rattle.timing.specs.declared.params.TimingValues.{TimingValues}
use Rattle.carrier.specs.declared.params.CarrierValues.{CarrierValues}
use Rattle.receiver.specs.Record.{SetUp as ReceiverSetUp, Receiver, opened, restarted}
use Rattle.receiver.specs.Loops.{timing_opened, carrier_opened, replaced_timing, replaced_carrier}
use Rattle.sample_calls.specs.Call.{called}
use Rattle.tape.specs.Reading.{Reading, unfinished, undefined, carrier, timing, announced, samples, reset, reading_of}
use Rattle.tape.specs.Steps.{places, symbol_parts}
use Rattle.whole_tapes.specs.Tape.{Played, output_of}

-- ---- the list of commands
pub data Command : Type 0 where
  set-carrier : CostasConstellation → CarrierValues → Command
  set-timing : TimingValues → Command
  bring : List Float → Command
  restart : Command

-- how the bytes end behind the last whole command: there, inside a command, inside samples, or at a field that is not
-- defined
pub data Ending : Type 0 where
  finished : Ending
  cut_off : Ending
  cut-in-samples : Ending
  not-defined : Ending

pub record Script : Type 0 where
  pub commands : List Command
  pub ending : Ending

abbrev pub ends_with : Ending → Script
ends_with e = record { commands = []; ending = e }

abbrev pub more : Command → Script → Script
more c s = record { commands = c ∷ s.commands; ending = s.ending }

-- by what stands at the front of the bytes l
abbrev pub script_on : (List ℕ → Script) → List ℕ → Reading → Script
script_on rest l (unfinished k) = ends_with (cond (eqb (length l) 0) finished cut_off)
script_on rest l (undefined n) = ends_with not-defined
script_on rest l (announced k) = ends_with cut-in-samples
script_on rest l (carrier k v) = more (set-carrier k v) (rest (drop 26 l))
script_on rest l (timing v) = more (set-timing v) (rest (drop 42 l))
script_on rest l (samples xs end) = more (bring xs) (rest (drop end l))
script_on rest l reset = more restart (rest (drop 1 l))

-- at most n commands
unfoldable pub scripts : ℕ → List ℕ → Script
scripts zero l = ends_with finished
scripts (suc n) l = script_on (scripts n) l (reading_of l)

unfoldable pub script_of : List ℕ → Script
script_of l = scripts (suc (length l)) l

-- ---- the calls made directly
-- the values that were set up so far, and the receiver once both loops have theirs
pub data Direct : Type 0 where
  neither : Direct
  timing-alone : TimingValues → Direct
  carrier-alone : CostasConstellation → CarrierValues → Direct
  both : Receiver → Direct

-- what was put out, and the number of the refusal that ended it (0: none)
pub record Told : Type 0 where
  pub output : List ℕ
  pub number : ℕ

abbrev pub stops : Refusal → Told
stops n = record { output = []; number = number_of n }

abbrev pub put_out : List ℕ → Told → Told
put_out bs t = record { output = bs ++ t.output; number = t.number }

-- by a set-up's answer
abbrev pub by_timing : TimingSetUp → Told → Told
by_timing (Ok s) t = t
by_timing (Err n) t = stops n

abbrev pub by_carrier : CarrierSetUp → Told → Told
by_carrier (Ok c) t = t
by_carrier (Err n) t = stops n

abbrev pub by_receiver : (Direct → Told) → ReceiverSetUp → Told
by_receiver rest (Ok r) = rest (both r)
by_receiver rest (Err n) = stops n

-- one command; `rest` is what the others come to
abbrev pub timing_set : (Direct → Told) → TimingValues → Direct → Told
timing_set rest v neither = by_timing (timing_opened v) (rest (timing-alone v))
timing_set rest v (timing-alone w) = by_timing (timing_opened v) (rest (timing-alone v))
timing_set rest v (carrier-alone k c) = by_receiver rest (opened k v c)
timing_set rest v (both r) = by_receiver rest (replaced_timing r v)

abbrev pub carrier_set : (Direct → Told) → CostasConstellation → CarrierValues → Direct → Told
carrier_set rest k v neither = by_carrier (carrier_opened k v) (rest (carrier-alone k v))
carrier_set rest k v (timing-alone t) = by_receiver rest (opened k t v)
carrier_set rest k v (carrier-alone j w) = by_carrier (carrier_opened k v) (rest (carrier-alone k v))
carrier_set rest k v (both r) = by_receiver rest (replaced_carrier r k v)

abbrev pub needs_both : (Receiver → Told) → Direct → Told
needs_both f neither = stops Early
needs_both f (timing-alone v) = stops Early
needs_both f (carrier-alone k v) = stops Early
needs_both f (both r) = f r

-- the end, where samples that are announced still need both loops
abbrev pub ends_in : Ending → Direct → Told
ends_in finished s = record { output = []; number = 0 }
ends_in cut_off s = stops Cut
ends_in cut-in-samples s = needs_both (λ r. stops Cut) s
ends_in not-defined s = stops Undefined

-- O11: the commands in their order, each on what the last one left
unfoldable pub directly : List Command → Ending → Direct → Told
directly [] e s = ends_in e s
directly (set-timing v ∷ cs) e s = timing_set (directly cs e) v s
directly (set-carrier k v ∷ cs) e s = carrier_set (directly cs e) k v s
directly (bring xs ∷ cs) e s = needs_both (λ r. let o = called r xs places places in put_out (bytes (symbol_parts o)) (directly cs e (both o.receiver))) s
directly (restart ∷ cs) e s = needs_both (λ r. directly cs e (both (restarted r))) s

-- what a tape tells of itself: the bytes that it puts out, and the number of its refusal
abbrev pub told_of : Played → Told
told_of p = record { output = output_of p.orders; number = p.number }
