-- The table of a set-up: rows, of which the first that is not passed decides; and what it means that an answer's
-- number is the one that the table says. Definitions only.
use Rattle.std.specs.Prelude.{◌≡◌, ℕ, ◌<◌, Bool, true, false, cond, List, [], ◌∷◌, T}
use Rattle.values.specs.declared.error.Refusal.{Refusal}
use Rattle.values.specs.Refusal.{number_of}

-- whether a set-up passes the row, and why it is refused if not
pub record Row : Type 0 where
  pub passed : Bool
  pub reason : Refusal

-- A4: t if every row is passed, else the refusal of the first that is not
unfoldable pub first_of : {A : Type 0} → (Refusal → A) → List Row → A → A
first_of refuse [] t = t
first_of refuse (r ∷ l) t = cond r.passed (first_of refuse l t) (refuse r.reason)

-- every row is passed
abbrev pub Passed : List Row → Type 0
Passed [] = T true
Passed (r ∷ l) = T r.passed × Passed l

-- a row with the number n is not passed, and all rows before it are
pub data First (n : ℕ) : List Row → Type 0 where
  here : {r : Row} {l : List Row} → r.passed ≡ false → number_of r.reason ≡ n → First n (r ∷ l)
  later : {r : Row} {l : List Row} → r.passed ≡ true → First n l → First n (r ∷ l)

-- A2: an answer's number (0: accepted) is what the table says, in both directions
pub record Exactly (number : ℕ) (l : List Row) : Type 0 where
  pub refused : (n : ℕ) → 0 < n → (number ≡ n → First n l) × (First n l → number ≡ n)
  pub accepted : (number ≡ 0 → Passed l) × (Passed l → number ≡ 0)
