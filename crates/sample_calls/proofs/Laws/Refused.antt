-- R10 and A7: which sample calls are refused, and with what: an odd count of f32 in any buffer first, then a strobe
-- buffer that is not as long as the output; in both the receiver and the buffers stay. Assumes nothing.
use mathlib.Core.Path.{◌≡◌, refl, ap, ◌∙◌, subst}
use mathlib.Core.Bool.{Bool, true, false, not, ◌&&◌, ◌||◌, cond, or-true}
use mathlib.Core.List.{List, []}
use Prim.Native.Nat.{◌%◌}
use borrow.Author.Tests.{eqb-true, eqb-false, eq-eqb, ne_eqb}
use lib.Dec.{T, eqb}
use lib.ListN.{length}
use lib.Ieee.{Float}
use Rattle.ieee.proofs.Laws.Test.{both-tests, neither-test}
use Rattle.values.specs.declared.error.Refusal.{Refusal}
use Rattle.values.specs.declared.error.Refusal.TheVariants.{Uneven, Odd}
use Rattle.values.specs.Buffers.{odd_either}
use Rattle.values.proofs.Laws.Buffers.{odd-input, odd-output, both-even, even-both}
use Rattle.receiver.specs.Record.{Receiver}
use Rattle.sample_calls.specs.Call.{Outcome, refused_call, done, odd_any, called, accepts}

-- ---- which counts are odd
module _ (xs zs ys : List Float) where
  pub odd-in-input : length xs % 2 ≡ 1 → odd_any xs zs ys ≡ true
  odd-in-input h = ap (λ (b : Bool). b || eqb (length ys % 2) 1) (odd-input xs zs h)

  pub odd-in-strobes : length zs % 2 ≡ 1 → odd_any xs zs ys ≡ true
  odd-in-strobes h = ap (λ (b : Bool). b || eqb (length ys % 2) 1) (odd-output xs zs h)

  pub odd-in-output : length ys % 2 ≡ 1 → odd_any xs zs ys ≡ true
  odd-in-output h = ap (λ (b : Bool). odd_either xs zs || b) (eq-eqb (length ys % 2) 1 h) ∙ or-true (odd_either xs zs)

  pub all-even : (length xs % 2 ≡ 1 → ⊥) → (length zs % 2 ≡ 1 → ⊥) → (length ys % 2 ≡ 1 → ⊥) → odd_any xs zs ys ≡ false
  all-even h i j = λ a. both-even xs zs h i a || ne_eqb (length ys % 2) 1 j a

  -- an accepted call has whole samples
  pub accepted-whole : accepts xs zs ys ≡ true → (length xs % 2 ≡ 0) × (length zs % 2 ≡ 0)
  accepted-whole h = even-both xs zs (neither-test (odd_either xs zs) (eqb (length ys % 2) 1) (both-tests (odd_any xs zs ys) (eqb (length zs) (length ys)) h).0).0

-- ---- what a call comes to
module _ (r : Receiver) (xs zs ys : List Float) where
  -- by its two tests
  abbrev by : Bool → Bool → Outcome
  by odd equal = cond odd (refused_call Odd r zs ys) (cond equal (done r xs zs ys) (refused_call Uneven r zs ys))

  pub called-odd : odd_any xs zs ys ≡ true → called r xs zs ys ≡ refused_call Odd r zs ys
  unfolding called
  called-odd h = ap (λ (b : Bool). by b (eqb (length zs) (length ys))) h

  pub called-uneven : odd_any xs zs ys ≡ false → (length zs ≡ length ys → ⊥) → called r xs zs ys ≡ refused_call Uneven r zs ys
  unfolding called
  called-uneven h k = ap (λ (b : Bool). by b (eqb (length zs) (length ys))) h ∙ ap (by false) (ne_eqb (length zs) (length ys) k)

  pub called-done : odd_any xs zs ys ≡ false → length zs ≡ length ys → called r xs zs ys ≡ done r xs zs ys
  unfolding called
  called-done h k = ap (λ (b : Bool). by b (eqb (length zs) (length ys))) h ∙ ap (by false) (eq-eqb (length zs) (length ys) k)

  -- the same by whether it is accepted
  pub accepted-done : accepts xs zs ys ≡ true → called r xs zs ys ≡ done r xs zs ys
  accepted-done h = let t = both-tests (odd_any xs zs ys) (eqb (length zs) (length ys)) h in called-done t.0 (eqb-true (length zs) (length ys) t.1)

  pub refused-by : accepts xs zs ys ≡ false → (n : Refusal) × (called r xs zs ys ≡ refused_call n r zs ys)
  refused-by = go (odd_any xs zs ys) (eqb (length zs) (length ys)) refl refl
    where
      go : (o e : Bool) → odd_any xs zs ys ≡ o → eqb (length zs) (length ys) ≡ e → (not o && e) ≡ false → (n : Refusal) × (called r xs zs ys ≡ refused_call n r zs ys)
      go true e h k f = (Odd, called-odd h)
      go false true h k f = absurd (subst T f tt)
      go false false h k f = (Uneven, called-uneven h (eqb-false (length zs) (length ys) k))

  -- R10: the number of a call: 8 if a count is odd, else 7 if the lengths differ, else 0
  pub called-number : (called r xs zs ys).number ≡ cond (odd_any xs zs ys) 8 (cond (eqb (length zs) (length ys)) 0 7)
  unfolding called done
  called-number = go (odd_any xs zs ys) (eqb (length zs) (length ys))
    where
      go : (o e : Bool) → (by o e).number ≡ cond o 8 (cond e 0 7)
      go true e = refl
      go false true = refl
      go false false = refl

-- A8: a call with empty buffers is accepted
pub empty-accepted : (r : Receiver) → (called r [] [] []).number ≡ 0
empty-accepted r = called-number r [] [] []
