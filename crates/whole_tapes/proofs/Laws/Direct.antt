-- O11: what a tape puts out, and the number that ends it, are those of the same commands made directly as the receiver's
-- own calls: set-ups by `opened`, and `replaced_timing` and `replaced_carrier` once both loops are there; samples by
-- `called`; a reset by `restarted`. Assumes nothing.
use Rattle.std.specs.Prelude.{Ok, Err}
use mathlib.Core.Path.{◌≡◌, refl, sym, ap, ◌∙◌}
use mathlib.Core.Bool.{Bool, true, false, cond}
use mathlib.Core.List.{List, []}
use Prim.Native.Nat.{ℕ, zero, suc, ◌+◌, ◌≤◌, ◌<◌}
use native.Mathlib.Omega.{arith}
use borrow.Author.Tests.{ne_eqb}
use lib.Dec.{eqb}
use lib.ListN.{length, length-drop, drop}
use lib.Ieee.{Float}
use Rattle.values.specs.declared.error.Refusal.TheVariants.{Cut}
use Rattle.values.specs.Refusal.{number_of}
use Rattle.little_endian.specs.Samples.{bytes}
use Rattle.complex_sync.specs.Views.{SymbolSyncState}
use Rattle.complex_sync.specs.Views.{SetUp as TimingSetUp}
use Rattle.constellations.specs.declared.kinds.CostasConstellation.{CostasConstellation}
use Rattle.carrier.specs.declared.state.CostasState.{CostasState}
use Rattle.carrier.specs.State.{SetUp as CarrierSetUp}
use Rattle.timing.specs.declared.params.TimingValues.{TimingValues}
use Rattle.carrier.specs.declared.params.CarrierValues.{CarrierValues}
use Rattle.receiver.specs.Record.{Receiver, restarted}
use Rattle.receiver.specs.Loops.{timing_opened, carrier_opened, in_turn}
use Rattle.receiver.proofs.Laws.Loops.{opened-in-turn, timing_in, carrier_in, replaced-timing, replaced-carrier}
use Rattle.sample_calls.specs.Call.{called}
use Rattle.plain.specs.Codes.{detector_of, constellation_of}
use Rattle.tape.specs.declared.desk.Desk.{Desk}
use Rattle.tape.specs.declared.desk.Desk.TheVariants.{Empty, Timing, Carrier, Both}
use Rattle.tape.specs.Reading.{byte_at, carrier_values, timing_values, count_of, samples_end, sample_parts, Reading, announced, samples, reset}
use Rattle.tape.specs.Reads.{Reads, nothing, no-command, is-reset, no-constellation, other-constellation, in-carrier, is-carrier, no-detector, other-detector, in-timing, is-timing, in_count, large-count, in-samples, is-samples}
use Rattle.tape.specs.Steps.{Stepped, carrier_answered, timing_answered, places, symbol_parts, acted, stepped}
use Rattle.whole_tapes.specs.Tape.{output_of, played_on, plays, played}
use Rattle.whole_tapes.specs.Direct.{Script, finished, cut_off, Direct, neither, timing-alone, carrier-alone, both, Told, put_out, by_receiver, by_timing, by_carrier, timing_set, carrier_set, ends_in, script_on, scripts, script_of, directly, told_of}
use Rattle.tape.proofs.Laws.Reads.{reads}

-- the values of which a desk's loops are the set-ups
data Stands : Direct → Desk → Type 0 where
  stands-empty : Stands neither Empty
  stands-timing : (v : TimingValues) (s : SymbolSyncState) → timing_opened v ≡ Ok s → Stands (timing-alone v) (Timing s)
  stands-carrier : (k : CostasConstellation) (v : CarrierValues) (c : CostasState) → carrier_opened k v ≡ Ok c → Stands (carrier-alone k v) (Carrier c)
  stands-both : (r : Receiver) → Stands (both r) (Both r)

-- what a script tells
tells : Script → Direct → Told
tells c s = directly c.commands c.ending s

-- ---- one command, where the rest of the tape tells what its commands do
module _ (n : ℕ) (rest : (at : ℕ) (s : Direct) (d : Desk) (l : List ℕ) → Stands s d → length l < n → told_of (plays n at d l) ≡ tells (scripts n l) s) (at : ℕ) (l : List ℕ) (room : length l < suc n) where
  -- behind a command of u bytes
  shorter : (u : ℕ) → 1 ≤ u → u ≤ length l → length (drop u l) < n
  shorter u h k = rw length-drop (omega arith)

  abbrev on : Stepped → Told
  on s = told_of (played_on (plays n) at l s)

  -- what the commands behind the first u bytes tell
  abbrev after : ℕ → Direct → Told
  after u s = tells (scripts n (drop u l)) s

  -- a tape that ends
  ends : (s : Direct) (b : Bool) → record { output = []; number = cond b 0 (number_of Cut) } ≡ ends_in (cond b finished cut_off) s
  ends s true = refl
  ends s false = refl

  module _ (k : CostasConstellation) (v : CarrierValues) (whole : 26 ≤ length l) where
    carrier-told : (s : Direct) (d : Desk) → Stands s d → (a : CarrierSetUp) → carrier_opened k v ≡ a → on (carrier_answered d a) ≡ carrier_set (after 26) k v s
    unfolding output_of bytes
    carrier-told s d stands-empty (Ok c) e = rest (at + 26) (carrier-alone k v) (Carrier c) (drop 26 l) (stands-carrier k v c e) (shorter 26 (omega arith) whole) ∙ ap (λ (a : CarrierSetUp). by_carrier a (after 26 (carrier-alone k v))) (sym e)
    carrier-told s d stands-empty (Err m) e = ap (λ (a : CarrierSetUp). by_carrier a (after 26 (carrier-alone k v))) (sym e)
    carrier-told s d (stands-carrier j w b f) (Ok c) e = rest (at + 26) (carrier-alone k v) (Carrier c) (drop 26 l) (stands-carrier k v c e) (shorter 26 (omega arith) whole) ∙ ap (λ (a : CarrierSetUp). by_carrier a (after 26 (carrier-alone k v))) (sym e)
    carrier-told s d (stands-carrier j w b f) (Err m) e = ap (λ (a : CarrierSetUp). by_carrier a (after 26 (carrier-alone k v))) (sym e)
    carrier-told s d (stands-timing t q f) (Ok c) e = rest (at + 26) (both _) (Both _) (drop 26 l) (stands-both _) (shorter 26 (omega arith) whole) ∙ ap (by_receiver (after 26)) (sym (opened-in-turn k t v ∙ (λ j. in_turn (f j) (e j))))
    carrier-told s d (stands-timing t q f) (Err m) e = ap (by_receiver (after 26)) (sym (opened-in-turn k t v ∙ (λ j. in_turn (f j) (e j))))
    carrier-told s d (stands-both r) (Ok c) e = rest (at + 26) (both _) (Both _) (drop 26 l) (stands-both _) (shorter 26 (omega arith) whole) ∙ ap (by_receiver (after 26)) (sym (replaced-carrier r k v ∙ ap (carrier_in r) e))
    carrier-told s d (stands-both r) (Err m) e = ap (by_receiver (after 26)) (sym (replaced-carrier r k v ∙ ap (carrier_in r) e))

  module _ (v : TimingValues) (whole : 42 ≤ length l) where
    timing-told : (s : Direct) (d : Desk) → Stands s d → (a : TimingSetUp) → timing_opened v ≡ a → on (timing_answered d a) ≡ timing_set (after 42) v s
    unfolding output_of bytes
    timing-told s d stands-empty (Ok q) e = rest (at + 42) (timing-alone v) (Timing q) (drop 42 l) (stands-timing v q e) (shorter 42 (omega arith) whole) ∙ ap (λ (a : TimingSetUp). by_timing a (after 42 (timing-alone v))) (sym e)
    timing-told s d stands-empty (Err m) e = ap (λ (a : TimingSetUp). by_timing a (after 42 (timing-alone v))) (sym e)
    timing-told s d (stands-timing w p f) (Ok q) e = rest (at + 42) (timing-alone v) (Timing q) (drop 42 l) (stands-timing v q e) (shorter 42 (omega arith) whole) ∙ ap (λ (a : TimingSetUp). by_timing a (after 42 (timing-alone v))) (sym e)
    timing-told s d (stands-timing w p f) (Err m) e = ap (λ (a : TimingSetUp). by_timing a (after 42 (timing-alone v))) (sym e)
    timing-told s d (stands-carrier k w c f) (Ok q) e = rest (at + 42) (both _) (Both _) (drop 42 l) (stands-both _) (shorter 42 (omega arith) whole) ∙ ap (by_receiver (after 42)) (sym (opened-in-turn k v w ∙ (λ j. in_turn (e j) (f j))))
    timing-told s d (stands-carrier k w c f) (Err m) e = ap (by_receiver (after 42)) (sym (opened-in-turn k v w ∙ (λ j. in_turn (e j) (f j))))
    timing-told s d (stands-both r) (Ok q) e = rest (at + 42) (both _) (Both _) (drop 42 l) (stands-both _) (shorter 42 (omega arith) whole) ∙ ap (by_receiver (after 42)) (sym (replaced-timing r v ∙ ap (timing_in r) e))
    timing-told s d (stands-both r) (Err m) e = ap (by_receiver (after 42)) (sym (replaced-timing r v ∙ ap (timing_in r) e))

  -- samples, where they are whole, and a reset
  samples-told : (xs : List Float) (end : ℕ) → 1 ≤ end → end ≤ length l → (s : Direct) (d : Desk) → Stands s d → on (acted d (samples xs end)) ≡ tells (script_on (scripts n) l (samples xs end)) s
  unfolding tells directly output_of
  samples-told xs end h k s d stands-empty = refl
  samples-told xs end h k s d (stands-timing w p f) = refl
  samples-told xs end h k s d (stands-carrier j w b f) = refl
  samples-told xs end h k s d (stands-both r) = let o = called r xs places places in ap (put_out (bytes (symbol_parts o))) (rest (at + end) (both o.receiver) (Both o.receiver) (drop end l) (stands-both o.receiver) (shorter end h k))

  reset-told : 1 ≤ length l → (s : Direct) (d : Desk) → Stands s d → on (acted d reset) ≡ tells (script_on (scripts n) l reset) s
  unfolding tells directly output_of bytes
  reset-told k s d stands-empty = refl
  reset-told k s d (stands-timing w p f) = refl
  reset-told k s d (stands-carrier j w b f) = refl
  reset-told k s d (stands-both r) = rest (at + 1) (both (restarted r)) (Both (restarted r)) (drop 1 l) (stands-both (restarted r)) (shorter 1 (omega arith) k)

  -- samples that are announced, and cut off where both loops are there
  announced-told : (k : ℕ) → 1 ≤ length l → (s : Direct) (d : Desk) → Stands s d → on (acted d (announced k)) ≡ tells (script_on (scripts n) l (announced k)) s
  unfolding tells directly output_of
  announced-told k h s d stands-empty = refl
  announced-told k h s d (stands-timing w p f) = refl
  announced-told k h s d (stands-carrier j w b f) = refl
  announced-told k h s d (stands-both r) = ap (λ (b : Bool). record { output = []; number = cond b 0 (number_of Cut) }) (ne_eqb (length l) 0 (λ e. omega arith))

  told : (s : Direct) (d : Desk) → Stands s d → {x : Reading} → Reads l x → on (acted d x) ≡ tells (script_on (scripts n) l x) s
  unfolding tells directly output_of
  told s d h (nothing z) = ends s (eqb (length l) 0)
  told s d h (no-command one a b c f) = refl
  told s d h (is-reset one i) = reset-told one s d h
  told s d h (no-constellation z i) = ends s (eqb (length l) 0)
  told s d h (other-constellation two i m) = refl
  told s d h (in-carrier two m i j) = ends s (eqb (length l) 0)
  told s d h (is-carrier m i j) = carrier-told (constellation_of (byte_at l 1)) (carrier_values l) m s d h _ refl
  told s d h (no-detector z i) = ends s (eqb (length l) 0)
  told s d h (other-detector two i m) = refl
  told s d h (in-timing two m i j) = ends s (eqb (length l) 0)
  told s d h (is-timing m i j) = timing-told (timing_values (detector_of (byte_at l 1)) l) m s d h _ refl
  told s d h (in_count one m i) = ends s (eqb (length l) 0)
  told s d h (large-count three i m) = refl
  told s d h (in-samples three m i j) = announced-told _ (omega arith) s d h
  told s d h (is-samples m i j) = samples-told (sample_parts l (count_of l)) (samples_end (count_of l)) (omega arith) m s d h

-- ---- a whole tape
all_told : (n at : ℕ) (s : Direct) (d : Desk) (l : List ℕ) → Stands s d → length l < n → told_of (plays n at d l) ≡ tells (scripts n l) s
unfolding plays scripts stepped
all_told zero at s d l h room = absurd (omega arith)
all_told (suc n) at s d l h room = told n (all_told n) at l room s d h (reads l)

-- O11
pub tape-directly : (l : List ℕ) → let c = script_of l in told_of (played l) ≡ directly c.commands c.ending neither
unfolding played script_of tells
tape-directly l = all_told (suc (length l)) 0 neither Empty l stands-empty (omega arith)
