-- One loop of a receiver by itself: which set-up of it is refused, and which record it is put into. Definitions only.
use Rattle.std.specs.Prelude.{ℕ, true, T, Ok, Err}
use Rattle.values.specs.Refusal.{number_of}
use Rattle.checks.specs.Table.{first_of}
use Rattle.timing.specs.Sample.{complex}
use Rattle.timing.specs.Run as run
use Rattle.complex_sync.specs.Views.{SymbolSyncState}
use Rattle.complex_sync.specs.Views.{SetUp as TimingSetUp}
use Rattle.constellations.specs.declared.kinds.CostasConstellation.{CostasConstellation}
use Rattle.carrier.specs.declared.state.CostasState.{CostasState}
use Rattle.carrier.specs.State.{SetUp as CarrierSetUp}
use Rattle.carrier.specs.State as carrier
use Rattle.timing.specs.declared.params.TimingValues.{TimingValues}
use Rattle.carrier.specs.declared.params.CarrierValues.{CarrierValues}
use Rattle.receiver.specs.Record.{SetUp, Receiver, timing_params, carrier_params_of, timing_rows, carrier_rows}

-- R25: timing's set-up, by the receiver's rows of timing; a refused one has no state (A6)
unfoldable pub timing_opened : TimingValues → TimingSetUp
timing_opened t = first_of Err (timing_rows t) (Ok (run.fresh complex (timing_params t)))

-- R25: the carrier's, by its rows
abbrev pub carrier_opened : CostasConstellation → CarrierValues → CarrierSetUp
carrier_opened k c = carrier.opened k c.loop_bw c.damping c.max_offset

-- K7: the number of timing's (0: accepted)
abbrev pub timing_number : TimingSetUp → ℕ
timing_number (Ok s) = 0
timing_number (Err n) = number_of n

abbrev pub TimingGiven : TimingSetUp → Type 0
TimingGiven (Ok s) = run.Given s
TimingGiven (Err n) = T true

-- R26: the record of two loops, with no symbol counted
abbrev pub joined : SymbolSyncState → CostasState → Receiver
joined s c = record { timing = s; carrier = c; count = 0 }

-- R27: the record with another loop; the other loop and the count stay
abbrev pub timing_put : Receiver → SymbolSyncState → Receiver
timing_put r s = record { timing = s; carrier = r.carrier; count = r.count }

abbrev pub carrier_put : Receiver → CostasState → Receiver
carrier_put r c = record { timing = r.timing; carrier = c; count = r.count }

-- the two loops' answers put together, timing's first
abbrev pub in_turn : TimingSetUp → CarrierSetUp → SetUp
in_turn (Ok s) (Ok c) = Ok (joined s c)
in_turn (Ok s) (Err n) = Err n
in_turn (Err n) a = Err n

-- R27: a loop is set up anew in a record, by the same rows; a refused one gives no record (A6)
unfoldable pub replaced_timing : Receiver → TimingValues → SetUp
replaced_timing r t = first_of Err (timing_rows t) (Ok (record { timing = run.fresh complex (timing_params t); carrier = r.carrier; count = r.count }))

unfoldable pub replaced_carrier : Receiver → CostasConstellation → CarrierValues → SetUp
replaced_carrier r k c = first_of Err (carrier_rows c) (Ok (record { timing = r.timing; carrier = carrier.fresh k (carrier_params_of c); count = r.count }))
