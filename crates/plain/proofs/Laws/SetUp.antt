-- L14: a set-up by codes is refused exactly by its table: the rows of the loop's own set-up, and behind them that of the
-- codes. Of any answer that has the numbers of its refusals. And what the record of a refusal says. Assumes nothing.
use mathlib.Core.Path.{◌≡◌, refl, sym, ap, ◌∙◌}
use Prim.Native.Nat.{ℕ, ◌<◌}
use native.Mathlib.Omega.{arith}
use mathlib.Core.Bool.{Bool, true, false}
use mathlib.Core.List.{List, [], ◌∷◌, ◌++◌}
use borrow.Author.Tests.{eq-eqb, ne_eqb}
use Rattle.values.specs.declared.error.Refusal.{Refusal}
use Rattle.values.specs.declared.error.Refusal.TheVariants.{Undefined}
use Rattle.values.specs.Refusal.{number_of}
use Rattle.values.proofs.Laws.Refusal.{refused-above}
use Rattle.checks.specs.Table.{Row, first_of, Exactly}
use Rattle.checks.proofs.Laws.Exactly.{exactly-append}
use Rattle.plain.specs.SetUp.{codes_row, by_codes, or_undefined}
use Rattle.plain.proofs.Laws.Codes.{refused-not-done}

module _ {A : Type 0} (number : A → ℕ) (refuse : Refusal → A) (refused : (n : Refusal) → number (refuse n) ≡ number_of n) where
  -- a refusal stays, whatever the codes are
  pub refusal-stays : (named : Bool) (n : Refusal) → or_undefined number refuse named (refuse n) ≡ refuse n
  refusal-stays true n = refl
  refusal-stays false n = ap (by_codes refuse (refuse n) false) (ne_eqb (number (refuse n)) 0 (λ e. omega (arith, refused-above n, refused n, e)))

  -- ---- the number, by that of the loop's own set-up
  after-accepted : (named : Bool) (a : A) → number a ≡ 0 → number (or_undefined number refuse named a) ≡ first_of number_of (codes_row named ∷ []) 0
  unfolding first_of
  after-accepted true a e = e
  after-accepted false a e = ap (λ (b : Bool). number (by_codes refuse a false b)) (eq-eqb (number a) 0 e) ∙ refused Undefined

  after-refused : (named : Bool) (a : A) → 0 < number a → number (or_undefined number refuse named a) ≡ number a
  after-refused true a p = refl
  after-refused false a p = ap (λ (b : Bool). number (by_codes refuse a false b)) (ne_eqb (number a) 0 (λ e. omega (arith, p, e)))

  pub codes-exactly : (named : Bool) (a : A) (l : List Row) → Exactly (number a) l → Exactly (number (or_undefined number refuse named a)) (l ++ codes_row named ∷ [])
  codes-exactly named a l x = exactly-append (number a) (number (or_undefined number refuse named a)) l (codes_row named ∷ []) x (after-accepted named a) (after-refused named a)

-- L3: the record z of a refusal is that of the answer, and has another number than 0; docs/code-not-defined.patch cites it
pub refused-record : {A Z P : Type 0} (refuse : Refusal → A) (record_of : A → Z) (number : Z → ℕ) → ((n : Refusal) → number (record_of (refuse n)) ≡ number_of n) → (n : Refusal) {a : A} {z : Z} → z ≡ record_of (refuse n) → a ≡ refuse n → (z ≡ record_of a) × (number z ≡ 0 → P)
refused-record refuse record_of number same n e f = (e ∙ sym (ap record_of f), refused-not-done n (ap number e ∙ same n))
