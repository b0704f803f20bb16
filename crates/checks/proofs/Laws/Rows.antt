-- The table of a set-up, row by row: the first row that is not passed decides. Of any answer. Assumes nothing.
use mathlib.Core.Path.{◌≡◌, refl, sym, ap, ◌∙◌}
use mathlib.Core.Bool.{Bool, true, false, not, cond}
use mathlib.Core.List.{List, [], ◌∷◌, ◌++◌}
use lib.Ieee.Bits.{is_true}
use Rattle.values.specs.declared.error.Refusal.{Refusal}
use Rattle.ieee.proofs.Laws.Test.{not-false}
use Rattle.checks.specs.Table.{Row, first_of, Passed}

module _ {A : Type 0} (refuse : Refusal → A) where
  module _ (r : Row) (l : List Row) (t : A) where
    abbrev by : Bool → A
    by b = cond b (first_of refuse l t) (refuse r.reason)

    pub first-passed : r.passed ≡ true → first_of refuse (r ∷ l) t ≡ first_of refuse l t
    unfolding first_of
    first-passed h = ap by h

    pub first-refused : r.passed ≡ false → first_of refuse (r ∷ l) t ≡ refuse r.reason
    unfolding first_of
    first-refused h = ap by h

  -- ---- two tables in a row: the second decides where all of the first is passed
  pub first-append : (l m : List Row) (t : A) → first_of refuse (l ++ m) t ≡ first_of refuse l (first_of refuse m t)
  unfolding first_of
  first-append [] m t = refl
  first-append (r ∷ l) m t = ap (λ (x : A). cond r.passed x (refuse r.reason)) (first-append l m t)

  -- ---- all rows are passed
  pub first-none : (t : A) → first_of refuse [] t ≡ t
  unfolding first_of
  first-none t = refl

  pub first-all : (l : List Row) (t : A) → Passed l → first_of refuse l t ≡ t
  first-all [] t h = first-none t
  first-all (r ∷ l) t h = first-passed r l t (is_true r.passed h.0) ∙ first-all l t h.1

-- an answer made of a table's answer, in which a refusal stays that refusal
pub first-map : {A B : Type 0} (f : A → B) (refuse : Refusal → A) (l : List Row) (t : A) → f (first_of refuse l t) ≡ first_of (λ (n : Refusal). f (refuse n)) l (f t)
unfolding first_of
first-map f refuse [] t = refl
first-map {A} {B} f refuse (r ∷ l) t = by r.passed ∙ ap (λ (x : B). cond r.passed x (f (refuse r.reason))) (first-map f refuse l t)
  where
    by : (b : Bool) → f (cond b (first_of refuse l t) (refuse r.reason)) ≡ cond b (f (first_of refuse l t)) (f (refuse r.reason))
    by true = refl
    by false = refl

-- ---- a test r for b that the code turns round
not-true : (b : Bool) → not b ≡ true → b ≡ false
not-true true e = sym e
not-true false e = refl

pub passes : {r b : Bool} → r ≡ b → not r ≡ false → b ≡ true
passes {r} e h = sym e ∙ not-false r h

pub fails : {r b : Bool} → r ≡ b → not r ≡ true → b ≡ false
fails {r} e h = sym e ∙ not-true r h
