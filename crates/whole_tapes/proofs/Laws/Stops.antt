-- E1 to E6 and E9 to E11: a tape's number is n exactly if the first command that is not carried out is refused, or cut
-- off, with the number n; it is 0 exactly if every command is carried out and the tape ends behind one. Assumes nothing.
use Rattle.std.specs.Prelude.{Ok, Err}
use mathlib.Core.Path.{◌≡◌, refl, sym, ap, ◌∙◌, subst}
use mathlib.Core.Bool.{Bool, true, cond}
use mathlib.Core.List.{List, [], ◌∷◌}
use Prim.Native.Nat.{ℕ, zero, suc, ◌+◌, ◌≤◌, ◌<◌}
use native.Mathlib.Omega.{arith}
use borrow.Author.Tests.{ne_eqb}
use lib.Dec.{T, eqb, leb, leb→le}
use lib.ListN.{length, drop, length-drop}
use lib.Ieee.{Float}
use Rattle.values.specs.declared.error.Refusal.TheVariants.{Cut, Early}
use Rattle.values.specs.Refusal.{number_of}
use Rattle.values.proofs.Laws.Refusal.{refused-above}
use Rattle.checks.specs.Table.{Row, First}
use Rattle.checks.specs.Table as row
use Rattle.complex_sync.specs.Views.{SetUp as TimingSetUp}
use Rattle.carrier.specs.State.{SetUp as CarrierSetUp, set_up_number}
use Rattle.timing.specs.declared.params.TimingValues.{TimingValues}
use Rattle.carrier.specs.declared.params.CarrierValues.{CarrierValues}
use Rattle.receiver.specs.Record.{Receiver, timing_rows, carrier_rows}
use Rattle.receiver.specs.Loops.{timing_opened, carrier_opened, timing_number}
use Rattle.receiver.proofs.Laws.Loops.{timing-exactly, carrier-exactly}
use Rattle.tape.specs.declared.desk.Desk.{Desk}
use Rattle.tape.specs.declared.desk.Desk.TheVariants.{Empty, Timing, Carrier, Both}
use Rattle.tape.specs.Reading.{Reading, unfinished, undefined, carrier, timing, announced, samples, reset, reading_of}
use Rattle.tape.specs.Reads.{Reads, nothing, in-samples}
use Rattle.tape.specs.Steps.{Stepped, wants, done, refused, carrier_answered, timing_answered, with_both, acted, stepped}
use Rattle.whole_tapes.specs.Tape.{played_on, plays, played}
use Rattle.whole_tapes.specs.Stops.{Missing, Stops, not-defined, cut, cut-in-samples, samples-announced-early, samples-early, reset-early, carrier-refused, timing-refused, StopsWith, here, later, Runs, over, on}
use Rattle.tape.proofs.Laws.Reads.{read_is, reads}
use Rattle.whole_tapes.proofs.Laws.Used.{used-inside}

-- ---- a tape that ends with the bytes l: its number, by what comes of them
abbrev cut_number : List ℕ → ℕ
cut_number l = cond (eqb (length l) 0) 0 (number_of Cut)

abbrev pub number_on : List ℕ → Stepped → ℕ
number_on l (wants k) = cut_number l
number_on l (done d used xs) = 0
number_on l (refused r read) = number_of r

-- inside a command, E10
some-cut : (l : List ℕ) → 1 ≤ length l → cut_number l ≡ 10
some-cut l h = ap (λ (b : Bool). cond b 0 10) (ne_eqb (length l) 0 (λ e. omega arith))

cut-some : (l : List ℕ) → 0 < cut_number l → 1 ≤ length l
cut-some [] h = absurd (omega arith)
cut-some (b ∷ l) h = omega arith

uncut-none : (l : List ℕ) → cut_number l ≡ 0 → length l ≡ 0
uncut-none [] e = refl
uncut-none (b ∷ l) e = absurd (omega (arith, some-cut (b ∷ l) (omega arith)))

-- ---- one command
both-or : (G : Stepped → Type 0) (d : Desk) (read : ℕ) (f : Receiver → Stepped) → (Missing d → G (refused Early read)) → ((r : Receiver) → d ≡ Both r → G (f r)) → G (with_both d read f)
both-or G Empty read f m b = m (λ r e. let z : ◌≡◌ {A = ℕ} 0 1 = cc in omega arith)
both-or G (Timing s) read f m b = m (λ r e. let z : ◌≡◌ {A = ℕ} 0 1 = cc in omega arith)
both-or G (Carrier c) read f m b = m (λ r e. let z : ◌≡◌ {A = ℕ} 0 1 = cc in omega arith)
both-or G (Both r) read f m b = b r refl

pub is-early : (d : Desk) → Missing d → (read : ℕ) (f : Receiver → Stepped) → with_both d read f ≡ refused Early read
is-early d m read f = both-or (λ (s : Stepped). s ≡ refused Early read) d read f (λ h. refl) (λ r e. absurd (m r e))

module _ (d : Desk) (l : List ℕ) where
  carrier-number : (a : CarrierSetUp) → number_on l (carrier_answered d a) ≡ set_up_number a
  carrier-number (Ok c) = refl
  carrier-number (Err n) = refl

  timing-number : (a : TimingSetUp) → number_on l (timing_answered d a) ≡ timing_number a
  timing-number (Ok s) = refl
  timing-number (Err n) = refl

  -- from its number to the condition
  module _ (n : ℕ) (p : 0 < n) where
    if-cut : cut_number l ≡ n → (1 ≤ length l → Stops d l 10) → Stops d l n
    if-cut e s = let one = cut-some l (omega arith) in subst (Stops d l) (sym (some-cut l one) ∙ e) (s one)

    if-missing : (read : ℕ) (f : Receiver → Stepped) → (Missing d → Stops d l 11) → ((r : Receiver) → d ≡ Both r → number_on l (f r) ≡ n → Stops d l n) → number_on l (with_both d read f) ≡ n → Stops d l n
    if-missing read f m = both-or (λ (s : Stepped). number_on l s ≡ n → Stops d l n) d read f (λ h e. subst (Stops d l) e (m h))

    condition : (x : Reading) → Reads l x → number_on l (acted d x) ≡ n → Stops d l n
    condition (unfinished k) h e = if-cut e (λ one. cut one h)
    condition (undefined k) h e = subst (Stops d l) e (not-defined h)
    condition (carrier k v) h e = carrier-refused h (((carrier-exactly k v).refused n p).0 (sym (carrier-number (carrier_opened k v)) ∙ e))
    condition (timing v) h e = timing-refused h (((timing-exactly v).refused n p).0 (sym (timing-number (timing_opened v)) ∙ e))
    condition (announced k) h e = if-missing 3 _ (λ m. samples-announced-early m h) (λ r q f. if-cut f (λ one. cut-in-samples r q h)) e
    condition (samples xs end) h e = if-missing 3 _ (λ m. samples-early m h) (λ r q f. absurd (omega arith)) e
    condition reset h e = if-missing 1 _ (λ m. reset-early m h) (λ r q f. absurd (omega arith)) e

  -- and back
  pub step_is : {x : Reading} → Reads l x → stepped d l ≡ acted d x
  unfolding stepped
  step_is h = ap (acted d) (read_is l h)

  announced-some : {k : ℕ} → Reads l (announced k) → 1 ≤ length l
  announced-some (in-samples three m i few) = omega arith

  number : (n : ℕ) → 0 < n → Stops d l n → number_on l (stepped d l) ≡ n
  number n p (not-defined h) = ap (number_on l) (step_is h)
  number n p (cut one h) = ap (number_on l) (step_is h) ∙ some-cut l one
  number n p (cut-in-samples {k} r e h) = ap (number_on l) (step_is h ∙ ap (λ (b : Desk). with_both b 3 (λ r. wants k)) e) ∙ some-cut l (announced-some h)
  number n p (samples-announced-early m h) = ap (number_on l) (step_is h ∙ is-early d m 3 _)
  number n p (samples-early m h) = ap (number_on l) (step_is h ∙ is-early d m 3 _)
  number n p (reset-early m h) = ap (number_on l) (step_is h ∙ is-early d m 1 _)
  number n p (carrier-refused {k} {v} h f) = ap (number_on l) (step_is h) ∙ carrier-number (carrier_opened k v) ∙ ((carrier-exactly k v).refused n p).1 f
  number n p (timing-refused {v} h f) = ap (number_on l) (step_is h) ∙ timing-number (timing_opened v) ∙ ((timing-exactly v).refused n p).1 f

  pub command-stops : (n : ℕ) → 0 < n → (number_on l (stepped d l) ≡ n → Stops d l n) × (Stops d l n → number_on l (stepped d l) ≡ n)
  unfolding stepped
  command-stops n p = (condition n p (reading_of l) (reads l), number n p)

-- ---- a set-up's checks have the numbers up to 6, so that E9 to E11 have the tape's own conditions and no other
abbrev UpToSix : List Row → Type 0
UpToSix [] = T true
UpToSix (r ∷ l) = T (leb (number_of r.reason) 6) × UpToSix l

first-up-to-six : {n : ℕ} (rows : List Row) → UpToSix rows → First n rows → n ≤ 6
first-up-to-six {n = n} [] u f = elim f [ ]
first-up-to-six (r ∷ l) u (row.here q e) = omega (arith, leb→le (number_of r.reason) 6 u.0)
first-up-to-six (r ∷ l) u (row.later q f) = first-up-to-six l u.1 f

pub carrier-up-to-six : {n : ℕ} (v : CarrierValues) → First n (carrier_rows v) → n ≤ 6
carrier-up-to-six v = first-up-to-six (carrier_rows v) (tt, (tt, (tt, tt)))

pub timing-up-to-six : {n : ℕ} (v : TimingValues) → First n (timing_rows v) → n ≤ 6
timing-up-to-six v = first-up-to-six (timing_rows v) (tt, (tt, (tt, (tt, (tt, (tt, tt))))))

-- ---- a tape from some place on
-- a command that is carried out leaves fewer bytes than there were
pub fewer : (d e : Desk) (l : List ℕ) (used m : ℕ) (xs : List Float) → stepped d l ≡ done e used xs → length l < suc m → length (drop used l) < m
fewer d e l used m xs h f = let i = used-inside d e used xs l h in omega (arith, length-drop used l)

module _ (n : ℕ) (p : 0 < n) where
  stops-from : (m at : ℕ) (d : Desk) (l : List ℕ) → length l < m → (plays m at d l).number ≡ n → StopsWith n d l
  unfolding plays
  stops-from zero at d l h e = absurd (omega arith)
  stops-from (suc m) at d l h e = by (stepped d l) refl (stops-from m) e
    where
      by : (s : Stepped) → stepped d l ≡ s → ((at : ℕ) (e : Desk) (r : List ℕ) → length r < m → (plays m at e r).number ≡ n → StopsWith n e r) → (played_on (plays m) at l s).number ≡ n → StopsWith n d l
      by (wants k) q f e = here ((command-stops d l n p).0 (ap (number_on l) q ∙ e))
      by (refused r k) q f e = here ((command-stops d l n p).0 (ap (number_on l) q ∙ e))
      by (done b used xs) q f e = later q (f (at + used) b (drop used l) (fewer d b l used m xs q h) e)

  stops-back : (m at : ℕ) (d : Desk) (l : List ℕ) → length l < m → StopsWith n d l → (plays m at d l).number ≡ n
  unfolding plays
  stops-back zero at d l h s = absurd (omega arith)
  stops-back (suc m) at d l h (here s) = by (stepped d l) ((command-stops d l n p).1 s)
    where
      by : (s : Stepped) → number_on l s ≡ n → (played_on (plays m) at l s).number ≡ n
      by (wants k) e = e
      by (refused r k) e = e
      by (done b used xs) e = absurd (omega arith)
  stops-back (suc m) at d l h (later {e = b} {used = used} {xs = xs} q s) = ap (λ (s : Stepped). (played_on (plays m) at l s).number) q ∙ stops-back m (at + used) b (drop used l) (fewer d b l used m xs q h) s

pub stops-exactly : (l : List ℕ) (n : ℕ) → 0 < n → ((played l).number ≡ n → StopsWith n Empty l) × (StopsWith n Empty l → (played l).number ≡ n)
unfolding played
stops-exactly l n p = let h : length l < suc (length l) = omega arith in (stops-from n p (suc (length l)) 0 Empty l h, stops-back n p (suc (length l)) 0 Empty l h)

-- ---- a tape with no refusal
runs-from : (m at : ℕ) (d : Desk) (l : List ℕ) → length l < m → (plays m at d l).number ≡ 0 → Runs d l
unfolding plays
runs-from zero at d l h e = absurd (omega arith)
runs-from (suc m) at d l h e = by (stepped d l) refl (runs-from m) e
  where
    by : (s : Stepped) → stepped d l ≡ s → ((at : ℕ) (e : Desk) (r : List ℕ) → length r < m → (plays m at e r).number ≡ 0 → Runs e r) → (played_on (plays m) at l s).number ≡ 0 → Runs d l
    by (wants k) q f e = over (uncut-none l e)
    by (refused r k) q f e = absurd (omega (arith, refused-above r))
    by (done b used xs) q f e = on q (f (at + used) b (drop used l) (fewer d b l used m xs q h) e)

runs-back : (m at : ℕ) (d : Desk) (l : List ℕ) → length l < m → Runs d l → (plays m at d l).number ≡ 0
unfolding plays
runs-back zero at d l h s = absurd (omega arith)
runs-back (suc m) at d l h (over z) = ap (λ (s : Stepped). (played_on (plays m) at l s).number) (step_is d l (nothing z)) ∙ ap (λ (k : ℕ). cond (eqb k 0) 0 10) z
runs-back (suc m) at d l h (on {e = b} {used = used} {xs = xs} q s) = ap (λ (s : Stepped). (played_on (plays m) at l s).number) q ∙ runs-back m (at + used) b (drop used l) (fewer d b l used m xs q h) s

pub runs-exactly : (l : List ℕ) → ((played l).number ≡ 0 → Runs Empty l) × (Runs Empty l → (played l).number ≡ 0)
unfolding played
runs-exactly l = let h : length l < suc (length l) = omega arith in (runs-from (suc (length l)) 0 Empty l h, runs-back (suc (length l)) 0 Empty l h)
