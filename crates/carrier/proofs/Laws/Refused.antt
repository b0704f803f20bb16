-- C1 and A7: which calls are refused, with what number, and that a refused call leaves state and output as they were.
-- Assumes nothing.
use Rattle.std.proofs.Common.{◌≡◌, Bool, true, false, cond, eqb, List, length, ap, ◌∙◌, eq-eqb, ne_eqb, eqb-true}
use lib.Ieee.{Float}
use Rattle.ieee.proofs.Laws.Test.{both-tests}
use Rattle.values.specs.declared.error.Refusal.TheVariants.{Uneven, Odd}
use Rattle.values.specs.Buffers.{odd_either}
use Rattle.carrier.specs.declared.state.CostasState.{CostasState}
use Rattle.carrier.specs.Run.{Outcome, refused_call, done, called, accepts}

module _ (s : CostasState) (xs ys : List Float) where
  -- a call, by its two tests
  abbrev by : Bool → Bool → Outcome
  by odd even = cond odd (refused_call Odd s ys) (cond even (done s xs) (refused_call Uneven s ys))

  pub called-odd : odd_either xs ys ≡ true → called s xs ys ≡ refused_call Odd s ys
  unfolding called
  called-odd h = ap (λ (b : Bool). by b (eqb (length xs) (length ys))) h

  pub called-uneven : odd_either xs ys ≡ false → (length xs ≡ length ys → ⊥) → called s xs ys ≡ refused_call Uneven s ys
  unfolding called
  called-uneven h k = ap (λ (b : Bool). by b (eqb (length xs) (length ys))) h ∙ ap (by false) (ne_eqb (length xs) (length ys) k)

  pub called-done : odd_either xs ys ≡ false → length xs ≡ length ys → called s xs ys ≡ done s xs
  unfolding called
  called-done h k = ap (λ (b : Bool). by b (eqb (length xs) (length ys))) h ∙ ap (by false) (eq-eqb (length xs) (length ys) k)

-- what an accepted call has
pub accepted-parts : (xs ys : List Float) → accepts xs ys ≡ true → (odd_either xs ys ≡ false) × (length xs ≡ length ys)
accepted-parts xs ys h = let t = both-tests (odd_either xs ys) (eqb (length xs) (length ys)) h in (t.0, eqb-true (length xs) (length ys) t.1)
