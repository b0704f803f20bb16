-- The receiver: which set-up is refused, which record a set-up, a reset or the phase setting gives, and what
-- holds of every such record. Definitions only.
use Rattle.std.specs.Prelude.{◌≡◌, ℕ, true, List, ◌++◌, T, Result, Ok, Err}
use Rattle.values.specs.Refusal.{number_of}
use Rattle.checks.specs.Table.{Row, first_of}
use Rattle.timing.specs.Gains.{kp_of, ki_of}
use Rattle.timing.specs.Setup.{params_with}
use Rattle.timing.specs.Setup as timing
use Rattle.timing.specs.Sample.{complex}
use Rattle.timing.specs.declared.params.Params.{Params}
use Rattle.timing.specs.Run as run
use Rattle.constellations.specs.declared.kinds.CostasConstellation.{CostasConstellation}
use Rattle.constellations.specs.declared.kinds.CostasConstellation.TheVariants.{Bpsk}
use Rattle.carrier.specs.declared.params.Params as carrierParams
use Rattle.carrier.specs.State as carrier
use Rattle.receiver_records.specs.Records.{Receiver64, Given64}
use Rattle.timing.specs.declared.params.TimingValues.{TimingValues}
use Rattle.carrier.specs.declared.params.CarrierValues.{CarrierValues}
use Rattle.values.specs.declared.error.Refusal.{Refusal}

-- a set-up's answer: the receiver, or why it is refused
abbrev pub SetUp : Type 0
SetUp = Result Receiver64 Refusal

-- R2, R18: the receiver's record is the one whose count has 64 bits
abbrev pub Receiver : Type 0
Receiver = Receiver64

-- R3: the constellation where none is named
abbrev pub unnamed : CostasConstellation
unnamed = Bpsk

-- what the two loops make of their values
abbrev pub timing_params : TimingValues → Params
timing_params t = params_with t.sps t.ted t.loop_bw t.damping t.max_deviation t.ted_gain (kp_of t.sps t.loop_bw t.damping t.ted_gain) (ki_of t.sps t.loop_bw t.damping t.ted_gain)

abbrev pub carrier_params_of : CarrierValues → carrierParams.Params
carrier_params_of c = carrier.params_of c.loop_bw c.damping c.max_offset

-- R7: both loops fresh, and no symbol counted
abbrev pub fresh : CostasConstellation → Params → carrierParams.Params → Receiver
fresh k p q = record { timing = run.fresh complex p; carrier = carrier.fresh k q; count = 0 }

-- the tests of timing, and those of the carrier
abbrev pub timing_rows : TimingValues → List Row
timing_rows t = timing.rows t.sps t.loop_bw t.damping t.max_deviation t.ted_gain

abbrev pub carrier_rows : CarrierValues → List Row
carrier_rows c = carrier.rows c.loop_bw c.damping c.max_offset

-- R4: the tests of a set-up in their order, timing's first
abbrev pub rows : TimingValues → CarrierValues → List Row
rows t c = timing_rows t ++ carrier_rows c

-- R4: a set-up's answer; a refused one has no receiver (A6)
unfoldable pub opened : CostasConstellation → TimingValues → CarrierValues → SetUp
opened k t c = first_of Err (rows t c) (Ok (fresh k (timing_params t) (carrier_params_of c)))

-- K7: its number (0: accepted)
abbrev pub set_up_number : SetUp → ℕ
set_up_number (Ok r) = 0
set_up_number (Err n) = number_of n

-- R7: the receiver after a reset, which keeps the values of the set-up
abbrev pub restarted : Receiver → Receiver
restarted r = fresh r.carrier.constellation r.timing.params r.carrier.params

-- R8: the phase of the carrier is set, and all else stays
abbrev pub phase_set : Receiver → ℕ → Receiver
phase_set r phase = record { timing = r.timing; carrier = carrier.phase_set r.carrier phase; count = r.count }

-- the values that a receiver was set up with, which nothing changes after that
pub record SetUpWith (k : CostasConstellation) (t : TimingValues) (c : CarrierValues) (r : Receiver) : Type 0 where
  pub constellation : r.carrier.constellation ≡ k
  pub timing : r.timing.params ≡ timing_params t
  pub carrier : r.carrier.params ≡ carrier_params_of c

-- ---- A9: a given record: all that a public call requires
abbrev pub Given : Receiver → Type 0
Given r = Given64 r

abbrev pub SetUpGiven : SetUp → Type 0
SetUpGiven (Ok r) = Given r
SetUpGiven (Err n) = T true
