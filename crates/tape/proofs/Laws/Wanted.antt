-- How many bytes are wanted: at least one, and with those read no more than the longest command has. Assumes nothing.
use Rattle.std.specs.Prelude.{Ok, Err}
use mathlib.Core.Path.{◌≡◌}
use mathlib.Core.List.{List}
use Prim.Native.Nat.{ℕ, ◌+◌, ◌≤◌, ◌<◌}
use native.Mathlib.Omega.{arith}
use lib.ListN.{length}
use Rattle.complex_sync.specs.Views.{SetUp as TimingSetUp}
use Rattle.carrier.specs.State.{SetUp as CarrierSetUp}
use Rattle.receiver.specs.Record.{Receiver}
use Rattle.receiver.specs.Loops.{timing_opened, carrier_opened}
use Rattle.plain.specs.Codes.{detector_of, constellation_of}
use Rattle.tape.specs.declared.desk.Desk.{Desk}
use Rattle.tape.specs.declared.desk.Desk.TheVariants.{Empty, Timing, Carrier, Both}
use Rattle.tape.specs.Reading.{byte_at, carrier_values, timing_values, Reading}
use Rattle.tape.specs.Reads.{Reads, nothing, no-command, is-reset, no-constellation, other-constellation, in-carrier, is-carrier, no-detector, other-detector, in-timing, is-timing, in_count, large-count, in-samples, is-samples}
use Rattle.tape.specs.Steps.{Stepped, wants, done, refused, carrier_answered, timing_answered, with_both, acted, stepped}
use Rattle.tape.proofs.Laws.Reads.{reads}

-- ---- what wants nothing
module _ {G : Type 0} {k : ℕ} where
  pub done-wants : {d : Desk} {n : ℕ} {xs : List _} → done d n xs ≡ wants k → G
  done-wants e = let z : ◌≡◌ {A = ℕ} 0 1 = cc in absurd (omega arith)

  pub refused-wants : {r : _} {n : ℕ} → refused r n ≡ wants k → G
  refused-wants e = let z : ◌≡◌ {A = ℕ} 0 1 = cc in absurd (omega arith)

  pub carrier-wants : (d : Desk) (a : CarrierSetUp) → carrier_answered d a ≡ wants k → G
  carrier-wants d (Ok c) e = done-wants e
  carrier-wants d (Err n) e = refused-wants e

  pub timing-wants : (d : Desk) (a : TimingSetUp) → timing_answered d a ≡ wants k → G
  timing-wants d (Ok s) e = done-wants e
  timing-wants d (Err n) e = refused-wants e

  -- what needs both loops wants what it wants with them
  pub both-wants : (d : Desk) (n : ℕ) (f : Receiver → Stepped) → ((r : Receiver) → f r ≡ wants k → G) → with_both d n f ≡ wants k → G
  both-wants Empty n f g e = refused-wants e
  both-wants (Timing s) n f g e = refused-wants e
  both-wants (Carrier c) n f g e = refused-wants e
  both-wants (Both r) n f g e = g r e

pub same-want : {m k : ℕ} → wants m ≡ wants k → m ≡ k
same-want e = cc

-- ---- what is wanted
module _ (d : Desk) (l : List ℕ) {k : ℕ} where
  wanted : {x : Reading} → Reads l x → acted d x ≡ wants k → (0 < k) × (length l + k ≤ 16387)
  wanted (nothing z) e = let s = same-want e in (omega arith, omega arith)
  wanted (no-command one a b c f) e = refused-wants e
  wanted (is-reset one h) e = both-wants d 1 _ (λ r f. done-wants f) e
  wanted (no-constellation z h) e = let s = same-want e in (omega arith, omega arith)
  wanted (other-constellation two h m) e = refused-wants e
  wanted (in-carrier two m h n) e = let s = same-want e in (omega arith, omega arith)
  wanted (is-carrier m h n) e = carrier-wants d (carrier_opened (constellation_of (byte_at l 1)) (carrier_values l)) e
  wanted (no-detector z h) e = let s = same-want e in (omega arith, omega arith)
  wanted (other-detector two h m) e = refused-wants e
  wanted (in-timing two m h n) e = let s = same-want e in (omega arith, omega arith)
  wanted (is-timing m h n) e = timing-wants d (timing_opened (timing_values (detector_of (byte_at l 1)) l)) e
  wanted (in_count one m h) e = let s = same-want e in (omega arith, omega arith)
  wanted (large-count three h m) e = refused-wants e
  wanted (in-samples three m h n) e = both-wants d 3 _ (λ r f. let s = same-want f in (omega arith, omega arith)) e
  wanted (is-samples m h n) e = both-wants d 3 _ (λ r f. done-wants f) e

  pub wanted_room : stepped d l ≡ wants k → (0 < k) × (length l + k ≤ 16387)
  unfolding stepped
  wanted_room e = wanted (reads l) e
