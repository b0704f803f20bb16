-- L14: a set-up whose detector and constellation come as codes: E9 joins the refusals of the loop's own set-up, behind
-- all of them (A4). Definitions only.
use Rattle.std.specs.Prelude.{ℕ, Bool, true, false, eqb}
use Rattle.values.specs.declared.error.Refusal.{Refusal}
use Rattle.values.specs.declared.error.Refusal.TheVariants.{Undefined}
use Rattle.checks.specs.Table.{Row}

-- E9: whether the codes are defined, as a row of the set-up's table
abbrev pub codes_row : Bool → Row
codes_row named = record { passed = named; reason = Undefined }

-- the answer a of the loop's own set-up, by whether the codes are defined, and whether a is accepted: E9 takes the place
-- of an accepted answer, and a refusal stays
abbrev pub by_codes : {A : Type 0} → (Refusal → A) → A → Bool → Bool → A
by_codes refuse a true accepted = a
by_codes refuse a false true = refuse Undefined
by_codes refuse a false false = a

-- the same over any type of answers, whose numbers and refusals are given
abbrev pub or_undefined : {A : Type 0} → (A → ℕ) → (Refusal → A) → Bool → A → A
or_undefined number refuse named a = by_codes refuse a named (eqb (number a) 0)
