-- The number of a set-up's answer is n exactly if a row with the number n is not passed and all before it are;
-- it is 0 exactly if every row is passed. Of any answer that has the numbers of its refusals, and of one more table
-- behind the first. Assumes nothing.
use mathlib.Core.Path.{◌≡◌, refl, sym, ap, ◌∙◌, subst}
use Prim.Native.Nat.{ℕ, zero, suc, ◌<◌}
use native.Mathlib.Omega.{arith}
use mathlib.Core.Bool.{Bool, true, false, cond}
use mathlib.Core.List.{List, [], ◌∷◌, ◌++◌}
use lib.Dec.{T}
use Rattle.values.specs.declared.error.Refusal.{Refusal}
use Rattle.values.specs.Refusal.{number_of}
use Rattle.values.proofs.Laws.Refusal.{refused-above}
use Rattle.checks.specs.Table.{Row, first_of, Passed, First, here, later, Exactly}
use Rattle.checks.proofs.Laws.Rows.{first-passed, first-refused, first-append, first-all}

-- ---- the number alone
abbrev first_number : List Row → ℕ
first_number l = first_of number_of l 0

first-is : (l : List Row) (n : ℕ) → 0 < n → first_number l ≡ n → First n l
unfolding first_of
first-is [] n p e = absurd (omega arith)
first-is (r ∷ l) n p e = by r.passed refl (first-is l n p) e
  where
    by : (b : Bool) → r.passed ≡ b → (first_number l ≡ n → First n l) → cond b (first_number l) (number_of r.reason) ≡ n → First n (r ∷ l)
    by true h f e = later h (f e)
    by false h f e = here h e

-- whatever the table ends with
is-first : (l : List Row) (n t : ℕ) → First n l → first_of number_of l t ≡ n
is-first (r ∷ l) n t (here f e) = first-refused number_of r l t f ∙ e
is-first (r ∷ l) n t (later h f) = first-passed number_of r l t h ∙ is-first l n t f
is-first [] n t x' = elim x' [ ]

all-passed : (l : List Row) → first_number l ≡ 0 → Passed l
unfolding first_of
all-passed [] e = tt
all-passed (r ∷ l) e = by r.passed (all-passed l) e
  where
    by : (b : Bool) → (first_number l ≡ 0 → Passed l) → cond b (first_number l) (number_of r.reason) ≡ 0 → T b × Passed l
    by true f e = (tt, f e)
    by false f e = absurd (omega (arith, refused-above r.reason))

-- ---- of answers with numbers
module _ {A : Type 0} (number : A → ℕ) (refuse : Refusal → A) (refused : (n : Refusal) → number (refuse n) ≡ number_of n) (t : A) (accepted : number t ≡ 0) where
  same_number : (l : List Row) → number (first_of refuse l t) ≡ first_number l
  unfolding first_of
  same_number [] = accepted
  same_number (r ∷ l) = by r.passed (same_number l)
    where
      by : (b : Bool) → number (first_of refuse l t) ≡ first_number l → number (cond b (first_of refuse l t) (refuse r.reason)) ≡ cond b (first_number l) (number_of r.reason)
      by true e = e
      by false e = refused r.reason

  pub exactly : (l : List Row) → Exactly (number (first_of refuse l t)) l
  exactly l =
      let e = same_number l in
      record {
        refused = λ n p. (λ h. first-is l n p (sym e ∙ h), λ h. e ∙ is-first l n 0 h);
        accepted = (λ h. all-passed l (sym e ∙ h), λ h. ap number (first-all refuse l t h) ∙ accepted);
      }

  -- an accepted answer is the one that the table ends with
  pub accepted-is : (l : List Row) (a : A) → number a ≡ 0 → first_of refuse l t ≡ a → Passed l × (t ≡ a)
  accepted-is l a z e = let h = (exactly l).accepted.0 (ap number e ∙ z) in (h, sym (first-all refuse l t h) ∙ e)

-- ---- of numbers alone
of-table : (l : List Row) → Exactly (first_number l) l
of-table l = exactly (λ n. n) number_of (λ n. refl) 0 refl l

-- two tables in a row: where the first refuses nothing, the number is the second's
pub exactly-append : (k n : ℕ) (l m : List Row) → Exactly k l → (k ≡ 0 → n ≡ first_number m) → (0 < k → n ≡ k) → Exactly n (l ++ m)
exactly-append k n l m x none some = subst (λ (i : ℕ). Exactly i (l ++ m)) (first-append number_of l m 0 ∙ by k x none some) (of-table (l ++ m))
  where
    by : (k : ℕ) → Exactly k l → (k ≡ 0 → n ≡ first_number m) → (0 < k → n ≡ k) → first_of number_of l (first_number m) ≡ n
    by zero x none some = first-all number_of l (first_number m) (x.accepted.0 refl) ∙ sym (none refl)
    by (suc k) x none some = let p : 0 < suc k = omega arith in is-first l (suc k) (first_number m) ((x.refused (suc k) p).0 refl) ∙ sym (some p)
