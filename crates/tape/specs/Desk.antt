-- Which loops a tape has set up: what a set-up, and a reset, make of it; and what holds of it. Definitions only.
use Rattle.std.specs.Prelude.{true, T}
use Rattle.timing.specs.Run as timing
use Rattle.complex_sync.specs.Views.{SymbolSyncState}
use Rattle.carrier.specs.declared.state.CostasState.{CostasState}
use Rattle.carrier.specs.State as carrier
use Rattle.receiver.specs.Record as receiver
use Rattle.receiver.specs.Loops.{joined, timing_put, carrier_put}
use Rattle.tape.specs.declared.desk.Desk.{Desk}
use Rattle.tape.specs.declared.desk.Desk.TheVariants.{Empty, Timing, Carrier, Both}

-- O7: a timing loop that is just set up
abbrev pub with_timing : Desk → SymbolSyncState → Desk
with_timing Empty s = Timing s
with_timing (Timing t) s = Timing s
with_timing (Carrier c) s = Both (joined s c)
with_timing (Both r) s = Both (timing_put r s)

-- O7: a carrier loop that is just set up
abbrev pub with_carrier : Desk → CostasState → Desk
with_carrier Empty c = Carrier c
with_carrier (Timing s) c = Both (joined s c)
with_carrier (Carrier b) c = Carrier c
with_carrier (Both r) c = Both (carrier_put r c)

-- A9: what is there is given
abbrev pub Given : Desk → Type 0
Given Empty = T true
Given (Timing s) = timing.Given s
Given (Carrier c) = carrier.Given c
Given (Both r) = receiver.Given r
