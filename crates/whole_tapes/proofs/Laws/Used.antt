-- A command that is carried out has at least one byte, and no more than there are. Assumes nothing.
use Rattle.std.specs.Prelude.{Ok, Err}
use mathlib.Core.Path.{◌≡◌}
use mathlib.Core.List.{List}
use Prim.Native.Nat.{ℕ, ◌≤◌}
use native.Mathlib.Omega.{arith}
use lib.ListN.{length}
use lib.Ieee.{Float}
use Rattle.values.specs.declared.error.Refusal.{Refusal}
use Rattle.complex_sync.specs.Views.{SetUp as TimingSetUp}
use Rattle.carrier.specs.State.{SetUp as CarrierSetUp}
use Rattle.receiver.specs.Record.{Receiver}
use Rattle.receiver.specs.Loops.{timing_opened, carrier_opened}
use Rattle.plain.specs.Codes.{detector_of, constellation_of}
use Rattle.tape.specs.declared.desk.Desk.{Desk}
use Rattle.tape.specs.declared.desk.Desk.TheVariants.{Empty, Timing, Carrier, Both}
use Rattle.tape.specs.Reading.{byte_at, carrier_values, timing_values, Reading}
use Rattle.tape.specs.Reads.{Reads, nothing, no-command, is-reset, no-constellation, other-constellation, in-carrier, is-carrier, no-detector, other-detector, in-timing, is-timing, in_count, large-count, in-samples, is-samples}
use Rattle.tape.specs.Steps.{Stepped, wants, done, refused, carrier_answered, timing_answered, with_both, acted, stepped}
use Rattle.tape.proofs.Laws.Reads.{reads}

module _ (d e : Desk) (used : ℕ) (xs : List Float) where
  -- ---- how many bytes a command has that is carried out
  wants-done : {G : Type 0} {k : ℕ} → wants k ≡ done e used xs → G
  wants-done h = let z : ◌≡◌ {A = ℕ} 0 1 = cc in absurd (omega arith)

  refused-done : {G : Type 0} {r : Refusal} {k : ℕ} → refused r k ≡ done e used xs → G
  refused-done h = let z : ◌≡◌ {A = ℕ} 0 1 = cc in absurd (omega arith)

  same-used : {f : Desk} {n : ℕ} {ys : List Float} → done f n ys ≡ done e used xs → n ≡ used
  same-used h = cc

  carrier-used : (a : CarrierSetUp) → carrier_answered d a ≡ done e used xs → 26 ≡ used
  carrier-used (Ok c) h = same-used h
  carrier-used (Err n) h = refused-done h

  timing-used : (a : TimingSetUp) → timing_answered d a ≡ done e used xs → 42 ≡ used
  timing-used (Ok s) h = same-used h
  timing-used (Err n) h = refused-done h

  both_used : {G : Type 0} (b : Desk) (n : ℕ) (f : Receiver → Stepped) → ((r : Receiver) → f r ≡ done e used xs → G) → with_both b n f ≡ done e used xs → G
  both_used Empty n f g h = refused-done h
  both_used (Timing s) n f g h = refused-done h
  both_used (Carrier c) n f g h = refused-done h
  both_used (Both r) n f g h = g r h

  inside : (l : List ℕ) {x : Reading} → Reads l x → acted d x ≡ done e used xs → (1 ≤ used) × (used ≤ length l)
  inside l (nothing z) h = wants-done h
  inside l (no-command one a b c f) h = refused-done h
  inside l (is-reset one i) h = both_used d 1 _ (λ r f. let s = same-used f in (omega arith, omega arith)) h
  inside l (no-constellation z i) h = wants-done h
  inside l (other-constellation two i m) h = refused-done h
  inside l (in-carrier two m i n) h = wants-done h
  inside l (is-carrier m i n) h = let s = carrier-used (carrier_opened (constellation_of (byte_at l 1)) (carrier_values l)) h in (omega arith, omega arith)
  inside l (no-detector z i) h = wants-done h
  inside l (other-detector two i m) h = refused-done h
  inside l (in-timing two m i n) h = wants-done h
  inside l (is-timing m i n) h = let s = timing-used (timing_opened (timing_values (detector_of (byte_at l 1)) l)) h in (omega arith, omega arith)
  inside l (in_count one m i) h = wants-done h
  inside l (large-count three i m) h = refused-done h
  inside l (in-samples three m i n) h = both_used d 3 _ (λ r f. wants-done f) h
  inside l (is-samples m i n) h = both_used d 3 _ (λ r f. let s = same-used f in (omega arith, omega arith)) h

  pub used-inside : (l : List ℕ) → stepped d l ≡ done e used xs → (1 ≤ used) × (used ≤ length l)
  unfolding stepped
  used-inside l h = inside l (reads l) h
