-- Lists compared element by element: those that are not equally long differ, where they agree up to a place the rest
-- decides, and where they are equally long their pairs all agree if and only if the lists do. Assumes nothing.
use Rattle.std.proofs.Common.{◌≡◌, ℕ, suc, ◌+◌, ◌<◌, ◌≤◌, Bool, true, false, ◌&&◌, eqb, List, [], ◌∷◌, length, get_or, drop, sym, refl, ap, ◌∙◌, add-one, arith, drop-cons}
use lib.Seq.{drop-length}
use Rattle.std.specs.Cmp.Lexicographic.{pointwise}
use Rattle.std.specs.List.{list_all, zip}
use Rattle.answers.specs.Slices.{same_by}

pub pairs_agree : {A : Type 0} (t : A → A → Bool) (a b : List A) → length a ≡ length b → list_all (λ (p : A × A). t p.0 p.1) (zip a b) ≡ pointwise t a b
pairs_agree t [] [] h = refl
pairs_agree t [] (y ∷ ys) h = absurd (omega (arith, h))
pairs_agree t (x ∷ xs) [] h = absurd (omega (arith, h))
pairs_agree t (x ∷ xs) (y ∷ ys) h = ap (λ (p : Bool). t x y && p) (pairs_agree t xs ys (cc))

both_false : (p : Bool) → (p && false) ≡ false
both_false true = refl
both_false false = refl

pub uneven : {A : Type 0} (f : A → ℕ) (a b : List A) → (length a ≡ length b → ⊥) → false ≡ same_by f a b
uneven f [] [] h = absurd (h refl)
uneven f [] (y ∷ ys) h = refl
uneven f (x ∷ xs) [] h = refl
uneven f (x ∷ xs) (y ∷ ys) h = sym (both_false (eqb (f x) (f y))) ∙ ap (λ (p : Bool). eqb (f x) (f y) && p) (uneven f xs ys (λ e. h (ap suc e)))

-- ---- the invariant: the lists agree up to place i
pub record Agreed {A : Type 0} (f : A → ℕ) (a b : List A) (i : ℕ) : Type 0 where
  pub equal : length a ≡ length b
  pub within : i ≤ length a
  pub rest : same_by f (drop i a) (drop i b) ≡ same_by f a b

module _ {A : Type 0} {f : A → ℕ} {a b : List A} {i : ℕ} (u : Agreed f a b i) where
  -- nothing is left
  pub ends : length a ≤ i → true ≡ same_by f a b
  ends h =
      let n : length a ≡ i = omega (arith, u.within) in
      sym (λ j. same_by f (drop-length a j) (drop-length b j)) ∙ (λ j. same_by f (drop (n j) a) (drop ((sym u.equal ∙ n) j) b)) ∙ u.rest

  module _ (more : i < length a) (d : A) where
    next : same_by f (drop i a) (drop i b) ≡ (eqb (f (get_or a i d)) (f (get_or b i d)) && same_by f (drop (suc i) a) (drop (suc i) b))
    next = λ j. same_by f (drop-cons a i d more j) (drop-cons b i d (omega (arith, u.equal)) j)

    pub differs : eqb (f (get_or a i d)) (f (get_or b i d)) ≡ false → false ≡ same_by f a b
    differs e = sym (next ∙ ap (λ (p : Bool). p && same_by f (drop (suc i) a) (drop (suc i) b)) e) ∙ u.rest

    pub goes_on : eqb (f (get_or a i d)) (f (get_or b i d)) ≡ true → Agreed f a b (i + 1)
    goes_on e =
        record {
          equal = u.equal;
          within = omega arith;
          rest = (λ j. same_by f (drop (add-one i j) a) (drop (add-one i j) b)) ∙ sym (next ∙ ap (λ (p : Bool). p && same_by f (drop (suc i) a) (drop (suc i) b)) e) ∙ u.rest;
        }
