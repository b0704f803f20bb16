-- What the code reads and answers, field by field; and that a command without symbols leaves the output alone, however
-- long it is. Assumes nothing.
use Rattle.std.specs.Prelude.{Ok, Err}
use mathlib.Core.Path.{◌≡◌, refl, sym, ap, ◌∙◌}
use mathlib.Core.Bool.{Bool, true, false, cond}
use mathlib.Core.List.{List, []}
use Prim.Native.Nat.{ℕ, ◌-◌, ◌*◌, ◌≤◌, ◌<◌}
use native.Mathlib.Omega.{arith}
use borrow.Author.Tests.{lt-ltb, le-ltb, ne_eqb}
use lib.Dec.{ltb}
use lib.ListN.{length}
use lib.Seq.{sets, take-nil}
use lib.Ieee.{Float}
use Rattle.values.specs.declared.error.Refusal.TheVariants.{Early}
use Rattle.little_endian.specs.Samples.{whole_samples, bytes, stored_bytes}
use Rattle.carrier.specs.State.{SetUp as CarrierSetUp}
use Rattle.complex_sync.specs.Views.{SetUp as TimingSetUp}
use Rattle.receiver.specs.Record.{Receiver}
use Rattle.receiver.specs.Loops.{timing_opened, carrier_opened}
use Rattle.plain.specs.Codes.{detector_of, detector_named, constellation_of, constellation_named}
use Rattle.tape.specs.declared.desk.Desk.{Desk}
use Rattle.tape.specs.declared.desk.Desk.TheVariants.{Empty, Timing, Carrier, Both}
use Rattle.tape.specs.declared.answer.Step.{Step}
use Rattle.tape.specs.declared.answer.Step.TheVariants.{Done}
use Rattle.tape.specs.Reading.{byte_at, carrier_values, timing_values, count_of, samples_end, sample_parts, Reading, unfinished, undefined, carrier, timing, announced, samples, reset, behind, selected, carrier_read, timing_read, samples_behind, samples_read, command_read, reading_of}
use Rattle.tape.specs.Steps.{Stepped, wants, done, refused, carrier_answered, timing_answered, with_both, acted, answer_of, symbols_of}

-- ---- a field that is not whole, and one that is
module _ (missing : ℕ → Reading) (end : ℕ) (l : List ℕ) (x : Reading) where
  abbrev by : Bool → Reading
  by b = cond b (missing (end - length l)) x

  pub behind-short : length l < end → behind missing end l x ≡ missing (end - length l)
  behind-short h = ap by (lt-ltb (length l) end h)

  pub behind-whole : end ≤ length l → behind missing end l x ≡ x
  behind-whole h = ap by (le-ltb (length l) end h)

-- ---- a selector
module _ (b : Bool) (end : ℕ) (l : List ℕ) (x : Reading) (two : 2 ≤ length l) where
  abbrev rest : Bool → Reading
  rest b = cond b (behind unfinished end l x) (undefined 2)

  pub selected-undefined : b ≡ false → selected b end l x ≡ undefined 2
  selected-undefined e = behind-whole unfinished 2 l (rest b) two ∙ ap rest e

  pub selected-short : b ≡ true → length l < end → selected b end l x ≡ unfinished (end - length l)
  selected-short e h = behind-whole unfinished 2 l (rest b) two ∙ ap rest e ∙ behind-short unfinished end l x h

  pub selected-whole : b ≡ true → end ≤ length l → selected b end l x ≡ x
  selected-whole e h = behind-whole unfinished 2 l (rest b) two ∙ ap rest e ∙ behind-whole unfinished end l x h

-- ---- a count of samples
module _ (l : List ℕ) (three : 3 ≤ length l) where
  abbrev counted : Bool → Reading
  counted b = cond b (undefined 3) (samples_behind l (count_of l))

  pub count-large : 2048 < count_of l → samples_read l ≡ undefined 3
  unfolding samples_read
  count-large h = behind-whole unfinished 3 l _ three ∙ ap counted (lt-ltb 2048 (count_of l) h)

  pub count_fits : count_of l ≤ 2048 → samples_read l ≡ samples_behind l (count_of l)
  unfolding samples_read
  count_fits h = behind-whole unfinished 3 l _ three ∙ ap counted (le-ltb 2048 (count_of l) h)

-- E11: without both loops samples are refused behind their count, whole or not
pub samples-early : (d : Desk) (l : List ℕ) (n : ℕ) → ((f : Receiver → Stepped) → with_both d 3 f ≡ refused Early 3) → acted d (samples_behind l n) ≡ refused Early 3
unfolding samples_behind
samples-early d l n h = by (ltb (length l) (samples_end n))
  where
    by : (b : Bool) → acted d (cond b (announced (samples_end n - length l)) (samples (sample_parts l n) (samples_end n))) ≡ refused Early 3
    by true = h _
    by false = h _

-- ---- a command byte
module _ (l : List ℕ) (one : 1 ≤ length l) where
  commands : reading_of l ≡ command_read l (byte_at l 0)
  unfolding reading_of
  commands = behind-whole unfinished 1 l _ one

  pub carrier-command : byte_at l 0 ≡ 1 → reading_of l ≡ carrier_read l
  unfolding command_read
  carrier-command e = commands ∙ ap (command_read l) e

  pub timing-command : byte_at l 0 ≡ 2 → reading_of l ≡ timing_read l
  unfolding command_read
  timing-command e = commands ∙ ap (command_read l) e

  pub samples-command : byte_at l 0 ≡ 3 → reading_of l ≡ samples_read l
  unfolding command_read
  samples-command e = commands ∙ ap (command_read l) e

  pub reset-command : byte_at l 0 ≡ 4 → reading_of l ≡ reset
  unfolding command_read
  reset-command e = commands ∙ ap (command_read l) e

  pub no-command : (byte_at l 0 ≡ 1 → ⊥) → (byte_at l 0 ≡ 2 → ⊥) → (byte_at l 0 ≡ 3 → ⊥) → (byte_at l 0 ≡ 4 → ⊥) → reading_of l ≡ undefined 1
  unfolding command_read
  no-command h i j k = let b = byte_at l 0 in commands ∙ rw (ne_eqb b 1 h, ne_eqb b 2 i, ne_eqb b 3 j, ne_eqb b 4 k) refl

-- ---- commands without symbols
module _ (d : Desk) where
  behind-silent : (end : ℕ) (l : List ℕ) (x : Reading) → symbols_of (acted d x) ≡ [] → symbols_of (acted d (behind unfinished end l x)) ≡ []
  behind-silent end l x h = by (ltb (length l) end)
    where
      by : (b : Bool) → symbols_of (acted d (cond b (unfinished (end - length l)) x)) ≡ []
      by true = refl
      by false = h

  selected-silent : (b : Bool) (end : ℕ) (l : List ℕ) (x : Reading) → symbols_of (acted d x) ≡ [] → symbols_of (acted d (selected b end l x)) ≡ []
  selected-silent b end l x h = behind-silent 2 l (cond b (behind unfinished end l x) (undefined 2)) (by b)
    where
      by : (b : Bool) → symbols_of (acted d (cond b (behind unfinished end l x) (undefined 2))) ≡ []
      by true = behind-silent end l x h
      by false = refl

  pub carrier-silent : (l : List ℕ) → symbols_of (acted d (carrier_read l)) ≡ []
  unfolding carrier_read
  carrier-silent l = let code = byte_at l 1 in let v = carrier_values l in selected-silent (constellation_named code) 26 l (carrier (constellation_of code) v) (by (carrier_opened (constellation_of code) v))
    where
      by : (a : CarrierSetUp) → symbols_of (carrier_answered d a) ≡ []
      by (Ok c) = refl
      by (Err n) = refl

  pub timing-silent : (l : List ℕ) → symbols_of (acted d (timing_read l)) ≡ []
  unfolding timing_read
  timing-silent l = let v = timing_values (detector_of (byte_at l 1)) l in selected-silent (detector_named (byte_at l 1)) 42 l (timing v) (by (timing_opened v))
    where
      by : (a : TimingSetUp) → symbols_of (timing_answered d a) ≡ []
      by (Ok s) = refl
      by (Err n) = refl

pub reset-silent : (d : Desk) → symbols_of (acted d reset) ≡ []
reset-silent Empty = refl
reset-silent (Timing s) = refl
reset-silent (Carrier c) = refl
reset-silent (Both r) = refl

-- what the code answers then does not depend on the output
answer-silent : (n : ℕ) (s : Stepped) → symbols_of s ≡ [] → answer_of 0 s ≡ answer_of n s
answer-silent n (wants k) e = refl
answer-silent n (refused r k) e = refl
answer-silent n (done d u xs) e = let none : 8 * whole_samples 0 (length xs) ≡ 8 * whole_samples n (length xs) = (let z = ap length e in omega arith) in λ j. Done (record { desk = d; used = u; written = none j })

-- and the output stays
stored-silent : {xs : List Float} (bs : List ℕ) → xs ≡ [] → stored_bytes xs bs ≡ bs
unfolding bytes
stored-silent {xs} bs e = ap (λ (ys : List Float). stored_bytes ys bs) e ∙ ap (λ (ys : List Float). sets bs 0 (bytes ys)) (take-nil (2 * whole_samples (length bs) 0))

-- ---- what a call answers and leaves in the output bs, where the definition says t, which is s
module _ (bs : List ℕ) {z : Step} {s t : Stepped} (e : t ≡ s) where
  -- without symbols
  pub told-silent : symbols_of s ≡ [] → z ≡ answer_of 0 s → (z ≡ answer_of (length bs) t) × (bs ≡ stored_bytes (symbols_of t) bs)
  told-silent q f = (f ∙ answer-silent (length bs) s q ∙ ap (answer_of (length bs)) (sym e), sym (stored-silent bs (ap symbols_of e ∙ q)))

  -- with those that a callee has written
  pub told-on : {cs : List ℕ} → z ≡ answer_of (length bs) s → cs ≡ stored_bytes (symbols_of s) bs → (z ≡ answer_of (length bs) t) × (cs ≡ stored_bytes (symbols_of t) bs)
  told-on f g = (f ∙ ap (answer_of (length bs)) (sym e), g ∙ ap (λ (u : Stepped). stored_bytes (symbols_of u) bs) (sym e))
