-- O7: in whichever order the two set-ups come, the receiver is the same, and it is the one of the receiver's own set-up.
-- A repeated set-up gives a record with the new values, and once reset that record is fresh (Q4), so that
-- `turned-recordings` holds of it. Assumes nothing.
use Rattle.std.specs.Prelude.{Ok}
use mathlib.Core.Path.{◌≡◌, refl}
use Rattle.timing.specs.Run as timing
use Rattle.complex_sync.specs.Views.{SymbolSyncState}
use Rattle.constellations.specs.declared.kinds.CostasConstellation.{CostasConstellation}
use Rattle.carrier.specs.declared.state.CostasState.{CostasState}
use Rattle.carrier.specs.State as carrier
use Rattle.timing.specs.declared.params.TimingValues.{TimingValues}
use Rattle.carrier.specs.declared.params.CarrierValues.{CarrierValues}
use Rattle.receiver.specs.Record.{Receiver, opened, restarted, SetUpWith, Given}
use Rattle.receiver.specs.Loops.{timing_opened, carrier_opened, joined, timing_put, carrier_put}
use Rattle.receiver.proofs.Laws.Loops.{opened-of-both, timing_put-with, carrier_put-with}
use Rattle.sample_calls.specs.Calls.{Fresh, just-reset}
use Rattle.tape.specs.declared.desk.Desk.TheVariants.{Empty, Both}
use Rattle.tape.specs.Desk.{with_timing, with_carrier}

-- ---- the first set-ups, in either order
pub either-order-is-the-set-up : (k : CostasConstellation) (t : TimingValues) (c : CarrierValues) {s : SymbolSyncState} {q : CostasState} → timing_opened t ≡ Ok s → carrier_opened k c ≡ Ok q
    → (with_carrier (with_timing Empty s) q ≡ Both (joined s q)) × (with_timing (with_carrier Empty q) s ≡ Both (joined s q)) × (opened k t c ≡ Ok (joined s q))
either-order-is-the-set-up k t c e f = (refl, refl, opened-of-both k t c e f)

-- ---- a repeated one
module _ {k : CostasConstellation} {t : TimingValues} {c : CarrierValues} (r : Receiver) (given : Given r) (with : SetUpWith k t c r) where
  pub timing-anew-fresh : (u : TimingValues) {s : SymbolSyncState} → timing_opened u ≡ Ok s → timing.Given s → Fresh k u c (restarted (timing_put r s))
  timing-anew-fresh u {s} e g = just-reset (timing_put r s) (record { timing = g; carrier = given.carrier; count-in = given.count-in }) (timing_put-with r u with e)

  pub carrier-anew-fresh : (l : CostasConstellation) (v : CarrierValues) {q : CostasState} → carrier_opened l v ≡ Ok q → carrier.Given q → Fresh l t v (restarted (carrier_put r q))
  carrier-anew-fresh l v {q} e g = just-reset (carrier_put r q) (record { timing = given.timing; carrier = g; count-in = given.count-in }) (carrier_put-with r l v with e)
