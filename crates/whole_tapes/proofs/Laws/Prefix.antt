-- How the first bytes of a command read: what is decided within them stays with more bytes behind them, and of what is
-- not they want more. Assumes nothing.
use Rattle.std.specs.Prelude.{Ok, Err}
use mathlib.Core.Path.{◌≡◌, ap, ◌∙◌}
use mathlib.Core.Bool.{Bool, true, false, cond}
use mathlib.Core.List.{List, ◌++◌}
use Prim.Native.Nat.{ℕ, ◌+◌, ◌-◌, ◌*◌, ◌≤◌, ◌<◌}
use native.Mathlib.Omega.{arith}
use lib.Dec.{T, ltb, eqb}
use lib.ListN.{length, take, drop, length-append, length-drop, get_or-append}
use lib.Seq.{take-append-le, drop-append-le}
use lib.Ieee.{Float, binary64, of_bits}
use Rattle.values.specs.declared.error.Refusal.{Refusal}
use Rattle.little_endian.specs.Bytes.{little_endian}
use Rattle.little_endian.specs.Samples.{double_at, floats}
use Rattle.complex_sync.specs.Views.{SetUp as TimingSetUp}
use Rattle.carrier.specs.State.{SetUp as CarrierSetUp}
use Rattle.receiver.specs.Record.{Receiver}
use Rattle.receiver.specs.Loops.{timing_opened, carrier_opened}
use Rattle.plain.specs.Codes.{detector_of, detector_named, constellation_of, constellation_named}
use Rattle.tape.specs.declared.desk.Desk.{Desk}
use Rattle.tape.specs.declared.desk.Desk.TheVariants.{Empty, Timing, Carrier, Both}
use Rattle.tape.specs.Reading.{byte_at, carrier_values, timing_values, count_of, samples_end, sample_parts, Reading, unfinished, undefined, carrier, timing, announced, samples, reset, behind, selected, carrier_read, timing_read, samples_behind, samples_read, command_read, reading_of}
use Rattle.tape.specs.Steps.{Stepped, wants, done, refused, carrier_answered, timing_answered, with_both, acted, stepped}
use Rattle.tape.proofs.Laws.Steps.{behind-short, behind-whole}
use Rattle.tape.proofs.Laws.Reads.{below_or}

-- ---- the fields that stand in the first bytes p
abbrev carrier_of : List ℕ → Reading
carrier_of l = carrier (constellation_of (byte_at l 1)) (carrier_values l)

abbrev timing_of : List ℕ → Reading
timing_of l = timing (timing_values (detector_of (byte_at l 1)) l)

module _ (p r : List ℕ) where
  pub byte-front : (k : ℕ) → k < length p → byte_at (p ++ r) k ≡ byte_at p k
  byte-front k h = get_or-append p r 0 k h

  part-front : (from n : ℕ) → from + n ≤ length p → take n (drop from (p ++ r)) ≡ take n (drop from p)
  part-front from n h = ap (take n) (drop-append-le from p r (omega arith)) ∙ take-append-le n (drop from p) r (rw length-drop (omega arith))

  double-front : (from : ℕ) → from + 8 ≤ length p → double_at (p ++ r) from ≡ double_at p from
  double-front from h = ap (λ (l : List ℕ). of_bits binary64 (little_endian l)) (part-front from 8 h)

  pub count-front : 3 ≤ length p → count_of (p ++ r) ≡ count_of p
  count-front h = ap little_endian (part-front 1 2 h)

  parts-front : (n : ℕ) → samples_end n ≤ length p → sample_parts (p ++ r) n ≡ sample_parts p n
  parts-front n h = ap floats (part-front 3 (8 * n) h)

  carrier-front : 26 ≤ length p → carrier_of (p ++ r) ≡ carrier_of p
  carrier-front h j =
      carrier
      (constellation_of (byte-front 1 (omega arith) j))
      (record { loop_bw = double-front 2 (omega arith) j; damping = double-front 10 (omega arith) j; max_offset = double-front 18 (omega arith) j })

  timing-front : 42 ≤ length p → timing_of (p ++ r) ≡ timing_of p
  timing-front h j =
      timing
      (record {
        sps = double-front 2 (omega arith) j;
        ted = detector_of (byte-front 1 (omega arith) j);
        loop_bw = double-front 10 (omega arith) j;
        damping = double-front 18 (omega arith) j;
        max_deviation = double-front 26 (omega arith) j;
        ted_gain = double-front 34 (omega arith) j;
      })

-- ---- what comes of the first m bytes
-- what comes of all bytes is not decided within them
abbrev pub Past : ℕ → Stepped → Type 0
Past m (wants k) = T true
Past m (refused why read) = m < read
Past m (done e used xs) = m < used

-- s comes of all bytes, and t of the first m alone
pub data Front (m : ℕ) : Stepped → Stepped → Type 0 where
  same-refusal : {why : Refusal} {read : ℕ} → read ≤ m → Front m (refused why read) (refused why read)
  same-command : {e : Desk} {used : ℕ} {xs : List Float} → used ≤ m → Front m (done e used xs) (done e used xs)
  wants-more : {s : Stepped} {k : ℕ} → Past m s → Front m s (wants k)

-- a set-up is decided behind its last field
module _ (m : ℕ) (d : Desk) where
  carrier-past : (a : CarrierSetUp) → m < 26 → Past m (carrier_answered d a)
  carrier-past (Ok c) h = h
  carrier-past (Err n) h = h

  carrier-same : (a : CarrierSetUp) → 26 ≤ m → Front m (carrier_answered d a) (carrier_answered d a)
  carrier-same (Ok c) h = same-command h
  carrier-same (Err n) h = same-refusal h

  timing-past : (a : TimingSetUp) → m < 42 → Past m (timing_answered d a)
  timing-past (Ok s) h = h
  timing-past (Err n) h = h

  timing-same : (a : TimingSetUp) → 42 ≤ m → Front m (timing_answered d a) (timing_answered d a)
  timing-same (Ok s) h = same-command h
  timing-same (Err n) h = same-refusal h

-- what needs both loops is refused behind n bytes without them
both-past : (m : ℕ) (d : Desk) (n : ℕ) (f : Receiver → Stepped) → m < n → ((r : Receiver) → Past m (f r)) → Past m (with_both d n f)
both-past m Empty n f h past = h
both-past m (Timing s) n f h past = h
both-past m (Carrier c) n f h past = h
both-past m (Both r) n f h past = past r

both-front : (m : ℕ) (d : Desk) (n : ℕ) (f g : Receiver → Stepped) → n ≤ m → ((r : Receiver) → Front m (f r) (g r)) → Front m (with_both d n f) (with_both d n g)
both-front m Empty n f g h on = same-refusal h
both-front m (Timing s) n f g h on = same-refusal h
both-front m (Carrier c) n f g h on = same-refusal h
both-front m (Both r) n f g h on = on r

-- ---- field by field: all bytes are p ++ r, the first ones p
module _ (d : Desk) (p r : List ℕ) where
  abbrev NotYet : Reading → Type 0
  NotYet x = Past (length p) (acted d x)

  abbrev Fronts : Reading → Reading → Type 0
  Fronts x y = Front (length p) (acted d x) (acted d y)

  -- a field that ends behind so many bytes, and then x
  behind-past : (end : ℕ) (x : Reading) → NotYet x → NotYet (behind unfinished end (p ++ r) x)
  behind-past end x h = by (ltb (length (p ++ r)) end)
    where
      by : (b : Bool) → NotYet (cond b (unfinished (end - length (p ++ r))) x)
      by true = tt
      by false = h

  behind-front : (end : ℕ) (x y : Reading) → (length p < end → NotYet x) → (end ≤ length p → Fronts x y) → Fronts (behind unfinished end (p ++ r) x) (behind unfinished end p y)
  behind-front end x y past on =
      below_or (length p) end
      (λ h. rw (behind-short unfinished end p y h) (wants-more (behind-past end x (past h))))
      (λ h. rw (behind-whole unfinished end (p ++ r) x (rw length-append (omega arith)), behind-whole unfinished end p y h) (on h))

  -- a selector, and then the set-up x
  module _ (end : ℕ) (two : 2 ≤ end) (named : ℕ → Bool) (x : List ℕ → Reading) (past : length p < end → NotYet (x (p ++ r))) where
    abbrev chosen : List ℕ → Bool → Reading
    chosen l b = cond b (behind unfinished end l (x l)) (undefined 2)

    abbrev set-up : List ℕ → Reading
    set-up l = selected (named (byte_at l 1)) end l (x l)

    chosen-past : length p < 2 → (b : Bool) → NotYet (chosen (p ++ r) b)
    chosen-past h true = behind-past end (x (p ++ r)) (past (omega arith))
    chosen-past h false = h

    set-up-past : length p < 2 → NotYet (set-up (p ++ r))
    set-up-past h = behind-past 2 (chosen (p ++ r) (named (byte_at (p ++ r) 1))) (chosen-past h (named (byte_at (p ++ r) 1)))

    set-up-front : (end ≤ length p → x (p ++ r) ≡ x p) → (end ≤ length p → Fronts (x p) (x p)) → Fronts (set-up (p ++ r)) (set-up p)
    set-up-front same on = behind-front 2 _ _ (λ h. chosen-past h (named (byte_at (p ++ r) 1))) (λ h. rw (ap (λ (b : ℕ). chosen (p ++ r) (named b)) (byte-front p r 1 h)) (by h (named (byte_at p 1))))
      where
        by : 2 ≤ length p → (b : Bool) → Fronts (chosen (p ++ r) b) (chosen p b)
        by h true = behind-front end (x (p ++ r)) (x p) past (λ whole. rw (same whole) (on whole))
        by h false = same-refusal h

  abbrev carrier-later : length p < 26 → NotYet (carrier_of (p ++ r))
  carrier-later = carrier-past (length p) d (carrier_opened (constellation_of (byte_at (p ++ r) 1)) (carrier_values (p ++ r)))

  carrier-read-past : length p < 2 → NotYet (carrier_read (p ++ r))
  unfolding carrier_read
  carrier-read-past = set-up-past 26 (omega arith) constellation_named carrier_of carrier-later

  carrier-read-front : Fronts (carrier_read (p ++ r)) (carrier_read p)
  unfolding carrier_read
  carrier-read-front = set-up-front 26 (omega arith) constellation_named carrier_of carrier-later (carrier-front p r) (carrier-same (length p) d (carrier_opened (constellation_of (byte_at p 1)) (carrier_values p)))

  abbrev timing-later : length p < 42 → NotYet (timing_of (p ++ r))
  timing-later = timing-past (length p) d (timing_opened (timing_values (detector_of (byte_at (p ++ r) 1)) (p ++ r)))

  timing-read-past : length p < 2 → NotYet (timing_read (p ++ r))
  unfolding timing_read
  timing-read-past = set-up-past 42 (omega arith) detector_named timing_of timing-later

  timing-read-front : Fronts (timing_read (p ++ r)) (timing_read p)
  unfolding timing_read
  timing-read-front = set-up-front 42 (omega arith) detector_named timing_of timing-later (timing-front p r) (timing-same (length p) d (timing_opened (timing_values (detector_of (byte_at p 1)) p)))

  -- n samples: without both loops they are refused behind the count
  abbrev brought : List ℕ → ℕ → Reading
  brought l n = samples (sample_parts l n) (samples_end n)

  samples-past : (n : ℕ) → length p < 3 → NotYet (samples_behind (p ++ r) n)
  unfolding samples_behind
  samples-past n h = by (ltb (length (p ++ r)) (samples_end n))
    where
      by : (b : Bool) → NotYet (cond b (announced (samples_end n - length (p ++ r))) (brought (p ++ r) n))
      by true = both-past (length p) d 3 _ h (λ s. tt)
      by false = both-past (length p) d 3 _ h (λ s. omega arith)

  samples-front : (n : ℕ) → 3 ≤ length p → Fronts (samples_behind (p ++ r) n) (samples_behind p n)
  unfolding samples_behind
  samples-front n three =
      below_or (length p) (samples_end n)
      (λ h. rw (behind-short announced (samples_end n) p (brought p n) h) (by h (ltb (length (p ++ r)) (samples_end n))))
      (λ h. let whole = behind-whole announced (samples_end n) (p ++ r) (brought (p ++ r) n) (rw length-append (omega arith)) in rw (whole, behind-whole announced (samples_end n) p (brought p n) h, parts-front p r n h) (both-front (length p) d 3 _ _ three (λ s. same-command h)))
    where
      by : length p < samples_end n → (b : Bool) → Fronts (cond b (announced (samples_end n - length (p ++ r))) (brought (p ++ r) n)) (announced (samples_end n - length p))
      by h true = both-front (length p) d 3 _ _ three (λ s. wants-more tt)
      by h false = both-front (length p) d 3 _ _ three (λ s. wants-more h)

  -- the count, and then the samples
  abbrev counted : List ℕ → ℕ → Reading
  counted l n = cond (ltb 2048 n) (undefined 3) (samples_behind l n)

  counted-past : length p < 3 → NotYet (counted (p ++ r) (count_of (p ++ r)))
  counted-past h = by (ltb 2048 (count_of (p ++ r)))
    where
      by : (b : Bool) → NotYet (cond b (undefined 3) (samples_behind (p ++ r) (count_of (p ++ r))))
      by true = h
      by false = samples-past (count_of (p ++ r)) h

  samples-read-past : length p < 3 → NotYet (samples_read (p ++ r))
  unfolding samples_read
  samples-read-past h = behind-past 3 (counted (p ++ r) (count_of (p ++ r))) (counted-past h)

  samples-read-front : Fronts (samples_read (p ++ r)) (samples_read p)
  unfolding samples_read
  samples-read-front = behind-front 3 (counted (p ++ r) (count_of (p ++ r))) (counted p (count_of p)) counted-past (λ h. rw (count-front p r h) (by h (ltb 2048 (count_of p))))
    where
      by : 3 ≤ length p → (b : Bool) → Fronts (cond b (undefined 3) (samples_behind (p ++ r) (count_of p))) (cond b (undefined 3) (samples_behind p (count_of p)))
      by h true = same-refusal h
      by h false = samples-front (count_of p) h

  -- the command byte
  abbrev commands : List ℕ → Bool → Bool → Bool → Bool → Reading
  commands l a b c e = cond a (carrier_read l) (cond b (timing_read l) (cond c (samples_read l) (cond e reset (undefined 1))))

  command-past : (b : ℕ) → length p < 1 → NotYet (command_read (p ++ r) b)
  unfolding command_read
  command-past b h = by (eqb b 1) (eqb b 2) (eqb b 3) (eqb b 4)
    where
      by : (a b c e : Bool) → NotYet (commands (p ++ r) a b c e)
      by true b c e = carrier-read-past (omega arith)
      by false true c e = timing-read-past (omega arith)
      by false false true e = samples-read-past (omega arith)
      by false false false true = both-past (length p) d 1 _ h (λ s. h)
      by false false false false = h

  command-front : (b : ℕ) → 1 ≤ length p → Fronts (command_read (p ++ r) b) (command_read p b)
  unfolding command_read
  command-front b h = by (eqb b 1) (eqb b 2) (eqb b 3) (eqb b 4)
    where
      by : (a b c e : Bool) → Fronts (commands (p ++ r) a b c e) (commands p a b c e)
      by true b c e = carrier-read-front
      by false true c e = timing-read-front
      by false false true e = samples-read-front
      by false false false true = both-front (length p) d 1 _ _ h (λ s. same-command h)
      by false false false false = same-refusal h

  -- what comes of all bytes, and of the first ones
  pub step-front : Front (length p) (stepped d (p ++ r)) (stepped d p)
  unfolding stepped reading_of
  step-front = behind-front 1 _ _ (command-past (byte_at (p ++ r) 0)) (λ h. rw (byte-front p r 0 h) (command-front (byte_at p 0) h))
