-- How far a tape is read: a refused one up to and including the field that is refused, one that is cut off, or that runs,
-- to its end. Assumes nothing.
use Rattle.std.specs.Prelude.{Ok, Err}
use mathlib.Core.Path.{◌≡◌, refl, ap, ◌∙◌}
use mathlib.Core.List.{List}
use Prim.Native.Nat.{ℕ, zero, suc, ◌+◌, ◌<◌}
use native.Mathlib.Omega.{arith}
use lib.ListN.{length, drop, length-drop}
use Rattle.complex_sync.specs.Views.{SetUp as TimingSetUp}
use Rattle.carrier.specs.State.{SetUp as CarrierSetUp}
use Rattle.receiver.specs.Loops.{timing_opened, carrier_opened}
use Rattle.tape.specs.declared.desk.Desk.{Desk}
use Rattle.tape.specs.declared.desk.Desk.TheVariants.{Empty}
use Rattle.tape.specs.Reads.{nothing}
use Rattle.tape.specs.Steps.{Stepped, wants, done, refused, carrier_answered, timing_answered, with_both, stepped}
use Rattle.whole_tapes.specs.Tape.{played_on, plays, played}
use Rattle.whole_tapes.specs.Stops.{Stops, not-defined, cut, cut-in-samples, samples-announced-early, samples-early, reset-early, carrier-refused, timing-refused, StopsWith, here, later, Runs, over, on, place_of, place_in}
use Rattle.whole_tapes.proofs.Laws.Used.{used-inside}
use Rattle.whole_tapes.proofs.Laws.Stops.{number_on, step_is, is-early, command-stops, carrier-up-to-six, timing-up-to-six, fewer, stops-exactly}

-- ---- one command: how many of its bytes are read
abbrev read_on : List ℕ → Stepped → ℕ
read_on l (wants k) = length l
read_on l (done d used xs) = used
read_on l (refused r read) = read

module _ (d : Desk) (l : List ℕ) where
  carrier-read : (a : CarrierSetUp) → read_on l (carrier_answered d a) ≡ 26
  carrier-read (Ok c) = refl
  carrier-read (Err n) = refl

  timing-read : (a : TimingSetUp) → read_on l (timing_answered d a) ≡ 42
  timing-read (Ok s) = refl
  timing-read (Err n) = refl

  place : {n : ℕ} (s : Stops d l n) → read_on l (stepped d l) ≡ place_of s
  place (not-defined h) = ap (read_on l) (step_is d l h)
  place (cut one h) = ap (read_on l) (step_is d l h)
  place (cut-in-samples {k} r e h) = ap (read_on l) (step_is d l h ∙ ap (λ (b : Desk). with_both b 3 (λ r. wants k)) e)
  place (samples-announced-early m h) = ap (read_on l) (step_is d l h ∙ is-early d m 3 _)
  place (samples-early m h) = ap (read_on l) (step_is d l h ∙ is-early d m 3 _)
  place (reset-early m h) = ap (read_on l) (step_is d l h ∙ is-early d m 1 _)
  place (carrier-refused {k} {v} h f) = ap (read_on l) (step_is d l h) ∙ carrier-read (carrier_opened k v)
  place (timing-refused {v} h f) = ap (read_on l) (step_is d l h) ∙ timing-read (timing_opened v)

-- ---- a tape from some place on
module _ (n : ℕ) (p : 0 < n) where
  stops-read : (m at : ℕ) (d : Desk) (l : List ℕ) → length l < m → (s : StopsWith n d l) → (plays m at d l).read ≡ at + place_in s
  unfolding plays
  stops-read zero at d l h s = absurd (omega arith)
  stops-read (suc m) at d l h (here s) = by (stepped d l) ((command-stops d l n p).1 s) (place d l s)
    where
      by : (t : Stepped) → number_on l t ≡ n → read_on l t ≡ place_of s → (played_on (plays m) at l t).read ≡ at + place_of s
      by (wants k) e f = ap (λ (k : ℕ). at + k) f
      by (refused r k) e f = ap (λ (k : ℕ). at + k) f
      by (done b used xs) e f = absurd (omega arith)
  stops-read (suc m) at d l h (later {e = b} {used = used} {xs = xs} q s) = ap (λ (t : Stepped). (played_on (plays m) at l t).read) q ∙ stops-read m (at + used) b (drop used l) (fewer d b l used m xs q h) s ∙ omega arith

pub stops-place : (l : List ℕ) (n : ℕ) → 0 < n → (s : StopsWith n Empty l) → (played l).read ≡ place_in s
unfolding played
stops-place l n p s = omega (arith, stops-read n p (suc (length l)) 0 Empty l (omega arith) s)

-- ---- to the end of the tape
all_read : {d : Desk} {l : List ℕ} {n : ℕ} (s : Stops d l n) → n ≡ 10 → place_of s ≡ length l
all_read (not-defined h) e = absurd (omega arith)
all_read (cut one h) e = refl
all_read (cut-in-samples r q h) e = refl
all_read (samples-announced-early m h) e = absurd (omega arith)
all_read (samples-early m h) e = absurd (omega arith)
all_read (reset-early m h) e = absurd (omega arith)
all_read (carrier-refused {v = v} h f) e = absurd (omega (arith, carrier-up-to-six v f))
all_read (timing-refused {v} h f) e = absurd (omega (arith, timing-up-to-six v f))

cut-through : {d : Desk} {l : List ℕ} (s : StopsWith 10 d l) → place_in s ≡ length l
cut-through (here s) = all_read s refl
cut-through {d} {l} (later {e = b} {used = used} {xs = xs} q s) = let i = used-inside d b used xs l q in omega (arith, cut-through s, length-drop used l)

pub cut-place : (l : List ℕ) → (played l).number ≡ 10 → (played l).read ≡ length l
cut-place l e = let s = (stops-exactly l 10 (omega arith)).0 e in stops-place l 10 (omega arith) s ∙ cut-through s

runs-read : (m at : ℕ) (d : Desk) (l : List ℕ) → length l < m → Runs d l → (plays m at d l).read ≡ at + length l
unfolding plays
runs-read zero at d l h s = absurd (omega arith)
runs-read (suc m) at d l h (over z) = ap (λ (t : Stepped). (played_on (plays m) at l t).read) (step_is d l (nothing z))
runs-read (suc m) at d l h (on {e = b} {used = used} {xs = xs} q s) = let i = used-inside d b used xs l q in ap (λ (t : Stepped). (played_on (plays m) at l t).read) q ∙ runs-read m (at + used) b (drop used l) (fewer d b l used m xs q h) s ∙ omega (arith, length-drop used l)

pub runs-place : (l : List ℕ) → Runs Empty l → (played l).read ≡ length l
unfolding played
runs-place l s = omega (arith, runs-read (suc (length l)) 0 Empty l (omega arith) s)
