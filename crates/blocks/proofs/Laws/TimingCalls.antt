-- B1: two timing calls in a row on a recording cut in two are one call on the whole: on real samples always,
-- on complex samples where the one call is not refused. From any given state. Assumes nothing.
use mathlib.Core.Path.{◌≡◌, refl, sym, ap, ap₂, ◌∙◌}
use mathlib.Core.Bool.{Bool, true, false}
use mathlib.Core.List.{List, ◌++◌, append_assoc}
use Prim.Native.Nat.{ℕ, ◌+◌, ◌-◌, ◌*◌, ◌/◌, ◌%◌}
use native.Mathlib.Nat.{zero-add, one-mul}
use native.Mathlib.Omega.{arith}
use borrow.Author.Tests.{eqb-true, eqb-false}
use lib.Dec.{eqb}
use lib.ListN.{length, take, drop, length-append, length-drop}
use lib.Seq.{take_at, drop_at, drop-drop}
use lib.Ieee.{Float}
use Rattle.values.specs.declared.sample.C32.{C32}
use Rattle.values.specs.Samples.{samples, parts}
use Rattle.values.proofs.Laws.Samples.{samples-append, samples-rest}
use Rattle.values.specs.Buffers.{written, odd_either}
use Rattle.values.proofs.Laws.Buffers.{odd-input, both-even, even-both}
use Rattle.timing.specs.Sample.{real, complex}
use Rattle.timing.specs.Form.{Form}
use Rattle.timing.specs.FormLaws.{FormLaws, onefold_laws, twofold_laws}
use Rattle.timing.specs.Run.{Sync, Given, Ran, ran, Outcome, done, called_real, done_complex, called_complex}
use Rattle.timing.proofs.Laws.Run.{called_complex-refused, called_complex-done}
use Rattle.timing.proofs.Laws.Shown.{length-slice, slice-append}
use Rattle.blocks.specs.Timing.{goes_on, together, call_together, goes_on_real, goes_on_complex}
use Rattle.blocks.proofs.Laws.Timing.{ran-together}

-- ---- what two runs store in the places of a slice
module _ {A : Type 0} {m : Form A} (keeps : FormLaws m) where
  -- the values of q stand in the first places, and what is behind them is as found
  module _ (q : Ran A) (zs : List Float) where
    abbrev n : ℕ
    n = m.width * length q.values

    stored-front : take n (done m.slice q zs).output ≡ m.slice q.values
    stored-front = take_at (m.slice q.values) (drop (length (m.slice q.values)) zs) n (length-slice keeps q.values)

    pub stored-rest : drop n (done m.slice q zs).output ≡ drop n zs
    stored-rest = drop_at (m.slice q.values) (drop (length (m.slice q.values)) zs) n (length-slice keeps q.values) ∙ ap (λ (x : ℕ). drop x zs) (length-slice keeps q.values)

    pub done-together : (r : Ran A) → call_together m.width (done m.slice q zs) (done m.slice r (drop n zs)) ≡ done m.slice (together q r) zs
    done-together r =
        let vs = m.slice q.values in
        let ws = m.slice r.values in
        let produced = sym (length-append q.values r.values) in
        let all = slice-append keeps q.values r.values in
        let long : n + length ws ≡ length (m.slice (q.values ++ r.values)) = omega (arith, ap length all, length-append vs ws, length-slice keeps q.values) in
        let behind = drop-drop (length ws) n zs ∙ ap (λ (x : ℕ). drop x zs) long in
        let output : take n (done m.slice q zs).output ++ written ws (drop n zs) ≡ written (m.slice (q.values ++ r.values)) zs
        = ap₂ (λ (a b : List Float). a ++ (ws ++ b)) stored-front behind ∙ sym (append_assoc vs ws (drop (length (m.slice (q.values ++ r.values))) zs)) ∙ ap (λ (l : List Float). l ++ drop (length (m.slice (q.values ++ r.values))) zs) (sym all) in
        λ j. record { number = 0; consumed = q.taken + r.taken; produced = produced j; state = r.state; output = output j }

-- ---- real samples
module _ (s : Sync Float) (given : Given s) (xs ys zs : List Float) where
  abbrev first : Ran Float
  first = ran real s xs (length zs)

  real-rest : drop (length first.values) (first.values ++ drop (length first.values) zs) ≡ drop (1 * length first.values) zs
  real-rest = rw one-mul (drop_at first.values (drop (length first.values) zs) (length first.values) refl)

  pub called_real-together : let q = called_real s xs zs in call_together 1 q (goes_on_real q xs ys) ≡ called_real s (xs ++ ys) zs
  unfolding called_real
  called_real-together =
      let n = length first.values in
      let left : length (drop (1 * n) zs) ≡ length zs - n = omega (arith, length-drop (1 * n) zs) in
      ap (λ (l : List Float). call_together 1 (done (λ vs. vs) first zs) (done (λ vs. vs) (ran real first.state (drop first.taken xs ++ ys) (length l)) l)) real-rest
      ∙ ap (λ (k : ℕ). call_together 1 (done (λ vs. vs) first zs) (done (λ vs. vs) (ran real first.state (drop first.taken xs ++ ys) k) (drop (1 * n) zs))) left
      ∙ done-together onefold_laws first zs (goes_on real first xs ys (length zs))
      ∙ ap (λ (r : Ran Float). done (λ vs. vs) r zs) (ran-together real s xs ys (length zs) (length zs) (omega arith) given)

-- ---- complex samples
module _ (s : Sync C32) (given : Given s) (xs ys zs : List Float) where
  abbrev first_of : Ran C32
  first_of = ran complex s (samples xs) (length zs / 2)

  -- a first block of whole samples
  whole-together : length xs % 2 ≡ 0 → length ys % 2 ≡ 0 → length zs % 2 ≡ 0 → let q = done_complex s xs zs in call_together 2 q (goes_on_complex q xs ys) ≡ done_complex s (xs ++ ys) zs
  whole-together xs-even ys-even zs-even =
      let q = done_complex s xs zs in
      let n = length first_of.values in
      let rest = drop (2 * first_of.taken) xs ++ ys in
      let whole = both-even rest (drop (2 * n) zs) (λ o. omega (arith, length-append (drop (2 * first_of.taken) xs) ys, length-drop (2 * first_of.taken) xs)) (λ o. omega (arith, length-drop (2 * n) zs)) in
      let left : length (drop (2 * n) zs) / 2 ≡ length zs / 2 - n = omega (arith, length-drop (2 * n) zs) in
      ap (λ (l : List Float). call_together 2 q (called_complex first_of.state rest l)) (stored-rest twofold_laws first_of zs)
      ∙ ap (call_together 2 q) (called_complex-done first_of.state rest (drop (2 * n) zs) whole)
      ∙ ap₂ (λ (l : List C32) (k : ℕ). call_together 2 q (done parts (ran complex first_of.state l k) (drop (2 * n) zs))) (samples-rest first_of.taken xs ys xs-even) left
      ∙ done-together twofold_laws first_of zs (goes_on complex first_of (samples xs) (samples ys) (length zs / 2))
      ∙ ap (λ (r : Ran C32). done parts r zs) (ran-together complex s (samples xs) (samples ys) (length zs / 2) (length zs / 2) (omega arith) given)
      ∙ ap (λ (l : List C32). done parts (ran complex s l (length zs / 2)) zs) (sym (samples-append xs ys xs-even))

  pub called_complex-together : odd_either (xs ++ ys) zs ≡ false → let q = called_complex s xs zs in call_together 2 q (goes_on_complex q xs ys) ≡ called_complex s (xs ++ ys) zs
  called_complex-together h = go (eqb (length xs % 2) 1) refl
    where
      go : (b : Bool) → eqb (length xs % 2) 1 ≡ b → let q = called_complex s xs zs in call_together 2 q (goes_on_complex q xs ys) ≡ called_complex s (xs ++ ys) zs
      -- the first call is refused, and the second is handed all
      go true e =
          let r = called_complex s (xs ++ ys) zs in
          ap (λ (q : Outcome C32). call_together 2 q (goes_on_complex q xs ys)) (called_complex-refused s xs zs (odd-input xs zs (eqb-true (length xs % 2) 1 e)))
          ∙ (λ j. record { number = r.number; consumed = zero-add r.consumed j; produced = zero-add r.produced j; state = r.state; output = r.output })
      go false e =
          let even = even-both (xs ++ ys) zs h in
          let xs-odd = eqb-false (length xs % 2) 1 e in
          let xs-even : length xs % 2 ≡ 0 = omega arith in
          ap (λ (q : Outcome C32). call_together 2 q (goes_on_complex q xs ys)) (called_complex-done s xs zs (both-even xs zs xs-odd (λ o. omega (arith, even.1))))
          ∙ whole-together xs-even (omega (arith, length-append xs ys, even.0)) even.1
          ∙ sym (called_complex-done s (xs ++ ys) zs h)
