-- O12: what comes of a tape that is cut anywhere, and that it puts out the first bytes of what the whole one puts out.
-- Assumes nothing.
use mathlib.Core.Path.{◌≡◌, refl, sym, ap, ◌∙◌, subst}
use mathlib.Core.Logic.{◌⊎◌, inl, inr}
use mathlib.Core.Bool.{Bool, true, false, cond}
use mathlib.Core.List.{List, [], ◌∷◌, ◌++◌, append-nil, append_assoc}
use Prim.Native.Nat.{ℕ, zero, suc, ◌+◌, ◌≤◌, ◌<◌}
use native.Mathlib.Omega.{arith}
use borrow.Author.Tests.{le-leb, lt-leb, eq-eqb, ne_eqb}
use lib.Dec.{eqb, leb}
use lib.ListN.{length, take, drop, length-append, length-drop, take-append-drop}
use lib.Seq.{length-take-le, drop-append-le}
use Rattle.values.specs.declared.error.Refusal.{Refusal}
use Rattle.values.specs.declared.error.Refusal.TheVariants.{Cut}
use Rattle.values.specs.Refusal.{number_of}
use Rattle.values.proofs.Laws.Refusal.{refused-above}
use Rattle.tape.specs.declared.desk.Desk.{Desk}
use Rattle.tape.specs.declared.desk.Desk.TheVariants.{Empty}
use Rattle.tape.specs.Steps.{Stepped, wants, done, refused, stepped}
use Rattle.whole_tapes.specs.Tape.{Order, Played, output_of, ended_at, stopped_at, preceded, played_on, plays, played, up_to, between, cut_at, CutOff}
use Rattle.tape.proofs.Laws.Reads.{below_or}
use Rattle.whole_tapes.proofs.Laws.Used.{used-inside}
use Rattle.whole_tapes.proofs.Laws.Prefix.{Past, Front, same-refusal, same-command, wants-more, step-front}

-- ---- whether the first command is whole within n bytes
module _ (at n : ℕ) (o : Order) (os : List Order) where
  none : n < o.end → cut_at at n (o ∷ os) ≡ cut_at at n []
  unfolding up_to between
  none h = rw (lt-leb o.end n h)

  more : o.end ≤ n → cut_at at n (o ∷ os) ≡ preceded o (cut_at o.end n os)
  unfolding up_to between
  more h = rw (le-leb o.end n h)

-- ---- one command: the whole tape is p ++ r from the place `at` on, and is cut behind p, which is n bytes
module _ (at n : ℕ) (p : List ℕ) (place : at + length p ≡ n) where
  -- no command is whole
  ended : ended_at at p ≡ cut_at at n []
  unfolding up_to between
  ended = λ j. record { orders = []; number = cond (same j) 0 (number_of Cut); read = place j }
    where
      same : eqb (length p) 0 ≡ eqb n at
      same =
          below_or (length p) 1
          (λ h. eq-eqb (length p) 0 (omega arith) ∙ sym (eq-eqb n at (omega arith)))
          (λ h. ne_eqb (length p) 0 (λ e. omega arith) ∙ sym (ne_eqb n at (λ e. omega arith)))

  -- the whole tape ends where more is wanted, too
  both_end : (r : List ℕ) → CutOff at n (ended_at at (p ++ r)) (ended_at at p)
  both_end r = record { refused = λ _ h. ap (ended_at at) (all r (simp length-append at h)); else-cut = λ _. ended }
    where
      all : (r : List ℕ) → at + (length p + length r) ≤ n → p ≡ p ++ r
      all [] h = sym (append-nil p)
      all (b ∷ r) h = absurd (omega arith)

  -- the command is refused behind n bytes
  stops-later : (read number : ℕ) → n < read → CutOff at n (stopped_at read number) (ended_at at p)
  stops-later read number h = record { refused = λ _ i. absurd (omega arith); else-cut = λ _. ended }

  -- the command ends behind n bytes
  goes-past : (o : Order) (w : Played) → n < o.end → o.end ≤ w.read → CutOff at n (preceded o w) (ended_at at p)
  goes-past o w h i = record { refused = λ _ j. absurd (omega arith); else-cut = λ _. ended ∙ sym (none at n o w.orders h) }

-- the command is refused within n bytes
stops-before : (at n read : ℕ) (why : Refusal) → read ≤ n → CutOff at n (stopped_at read (number_of why)) (stopped_at read (number_of why))
stops-before at n read why h = record { refused = λ _ _. refl; else-cut = by }
  where
    by : (number_of why ≡ 0) ⊎ (n < read) → stopped_at read (number_of why) ≡ cut_at at n []
    by (inl e) = absurd (omega (arith, refused-above why))
    by (inr i) = absurd (omega arith)

-- the command is whole within n bytes: the rest is cut
goes_on : (at n : ℕ) (o : Order) {w c : Played} → o.end ≤ n → CutOff o.end n w c → CutOff at n (preceded o w) (preceded o c)
goes_on at n o {w} h rest = record { refused = λ i j. ap (preceded o) (rest.refused i j); else-cut = λ i. ap (preceded o) (rest.else-cut i) ∙ sym (more at n o w.orders h) }

-- ---- all commands
-- a tape is read at least up to where it begins
read-from : (n at : ℕ) (d : Desk) (l : List ℕ) → at ≤ (plays n at d l).read
unfolding plays
read-from zero at d l = omega arith
read-from (suc n) at d l = by (λ at e l. read-from n at e l) (stepped d l)
  where
    by : ((at : ℕ) (e : Desk) (l : List ℕ) → at ≤ (plays n at e l).read) → (s : Stepped) → at ≤ (played_on (plays n) at l s).read
    by rest (wants k) = omega arith
    by rest (refused why read) = omega arith
    by rest (done e used xs) = omega (arith, rest (at + used) e (drop used l))

-- j and k commands at most; the first one is decided within the n bytes, or not
module _ (n j k at : ℕ) (d : Desk) (p r : List ℕ) (place : at + length p ≡ n) where
  -- what is behind it is cut at the same place
  abbrev Rest : Type 0
  Rest = (used : ℕ) (e : Desk) → 1 ≤ used → used ≤ length p → CutOff (at + used) n (plays j (at + used) e (drop used (p ++ r))) (plays k (at + used) e (drop used p))

  open-cut : (s : Stepped) → Past (length p) s → CutOff at n (played_on (plays j) at (p ++ r) s) (ended_at at p)
  open-cut (wants k) past = both_end at n p place r
  open-cut (refused why read) past = stops-later at n p place (at + read) (number_of why) (omega arith)
  open-cut (done e used xs) past = goes-past at n p place _ _ (omega arith) (read-from j (at + used) e (drop used (p ++ r)))

  first-cut : {s t : Stepped} → stepped d (p ++ r) ≡ s → Front (length p) s t → Rest → CutOff at n (played_on (plays j) at (p ++ r) s) (played_on (plays k) at p t)
  first-cut h (same-refusal {why} {read} within) rest = stops-before at n (at + read) why (omega arith)
  first-cut h (same-command {e} {used} {xs} within) rest = goes_on at n _ (omega arith) (rest used e (used-inside d e used xs (p ++ r) h).0 within)
  first-cut h (wants-more {s} past) rest = open-cut s past

-- j and k are more than there are bytes
plays-cut : (n j k at : ℕ) (d : Desk) (p r : List ℕ) → at + length p ≡ n → length p + length r < j → length p < k → CutOff at n (plays j at d (p ++ r)) (plays k at d p)
unfolding plays
plays-cut n zero k at d p r place long short = absurd (omega arith)
plays-cut n (suc j) zero at d p r place long short = absurd (omega arith)
plays-cut n (suc j) (suc k) at d p r place long short =
    first-cut n j k at d p r place refl (step-front d p r)
    (λ used e one within. rw (drop-append-le used p r within) (plays-cut n j k (at + used) e (drop used p) r (rw length-drop (omega arith)) (rw length-drop (omega arith)) (rw length-drop (omega arith))))

pub played-cut : (l : List ℕ) (n : ℕ) → n ≤ length l → CutOff 0 n (played l) (played (take n l))
unfolding played
played-cut l n h =
    let long = length-take-le n l h in
    subst
    (λ (w : List ℕ). CutOff 0 n (plays (suc (length l)) 0 Empty w) (plays (suc (length (take n l))) 0 Empty (take n l)))
    (take-append-drop n l)
    (plays-cut n (suc (length l)) (suc (length (take n l))) 0 Empty (take n l) (drop n l) (omega arith) (rw length-drop (omega arith)) (omega arith))

-- ---- what is put out
-- these bytes, and then others
abbrev Begins : List ℕ → List ℕ → Type 0
Begins front all = (rest : List ℕ) × (all ≡ front ++ rest)

pub cut-prefix : (n : ℕ) (os : List Order) → (rest : List ℕ) × (output_of os ≡ output_of (up_to n os) ++ rest)
unfolding output_of up_to
cut-prefix n [] = ([], refl)
cut-prefix n (o ∷ os) = by (leb o.end n) (cut-prefix n os)
  where
    by : (b : Bool) → Begins (output_of (up_to n os)) (output_of os) → Begins (output_of (cond b (o ∷ up_to n os) [])) (o.output ++ output_of os)
    by true (rest, e) = (rest, ap (λ (l : List ℕ). o.output ++ l) e ∙ sym (append_assoc o.output (output_of (up_to n os)) rest))
    by false _ = (o.output ++ output_of os, refl)

pub cut-output : (l : List ℕ) (n : ℕ) → n ≤ length l → (rest : List ℕ) × (output_of (played l).orders ≡ output_of (played (take n l)).orders ++ rest)
cut-output l n h =
    below_or 0 (played l).number
    (λ some. below_or n (played l).read (λ later. cut (off.else-cut (inr later))) (λ before. same (off.refused some before)))
    (λ none. cut (off.else-cut (inl (omega arith))))
  where
    off : CutOff 0 n (played l) (played (take n l))
    off = played-cut l n h

    same : {c : Played} → c ≡ played l → Begins (output_of c.orders) (output_of (played l).orders)
    same {c} e = ([], sym (append-nil (output_of c.orders) ∙ ap (λ (c : Played). output_of c.orders) e))

    cut : {c : Played} → c ≡ cut_at 0 n (played l).orders → Begins (output_of c.orders) (output_of (played l).orders)
    cut e = subst (λ (c : Played). Begins (output_of c.orders) (output_of (played l).orders)) (sym e) (cut-prefix n (played l).orders)
