-- When a tape has ended as its frame says, test by test. Assumes nothing.
use Rattle.std.proofs.Common.{◌≡◌, ℕ, ◌+◌, ◌-◌, Bool, false, ◌&&◌, eqb, List, take, drop, sym, ap, ◌∙◌, arith, eq-eqb, ne_eqb}
use Rattle.answers.specs.Slices.{same_words}
use Rattle.tape_replay.specs.declared.frame.Ending.{Ending}
use Rattle.tape_replay.specs.declared.frame.Frame.{Frame}
use Rattle.tape_replay.specs.Compare.{recorded, agreed}

module _ (f : Frame) (l : List ℕ) (e : Ending) (ys : List ℕ) where
  abbrev placed : Bool
  placed = eqb e.place f.ending.place

  abbrev put : Bool
  put = same_words (take e.output ys) (recorded f l)

  pub other-number : (e.number ≡ f.ending.number → ⊥) → false ≡ agreed f l e ys
  unfolding agreed
  other-number h = sym (ap (λ (b : Bool). b && (placed && put)) (ne_eqb _ _ h))

  module _ (numbers : e.number ≡ f.ending.number) where
    placed-and-put : (placed && put) ≡ agreed f l e ys
    unfolding agreed
    placed-and-put = sym (ap (λ (b : Bool). b && (placed && put)) (eq-eqb _ _ numbers))

    pub other_place : (e.place ≡ f.ending.place → ⊥) → false ≡ agreed f l e ys
    other_place h = sym (ap (λ (b : Bool). b && put) (ne_eqb _ _ h)) ∙ placed-and-put

    pub by-output : e.place ≡ f.ending.place → put ≡ agreed f l e ys
    by-output h = sym (ap (λ (b : Bool). b && put) (eq-eqb _ _ h)) ∙ placed-and-put
