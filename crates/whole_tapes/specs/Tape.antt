-- O10 to O12: what a whole tape comes to, as a function of its bytes alone; and what comes of a tape that is cut.
-- Definitions only.
use Rattle.std.specs.Prelude.{◌≡◌, ◌⊎◌, Bool, cond, List, [], ◌∷◌, ◌++◌, ℕ, zero, suc, ◌+◌, ◌≤◌, ◌<◌, eqb, leb, length, drop}
use Rattle.values.specs.declared.error.Refusal.TheVariants.{Cut}
use Rattle.values.specs.Refusal.{number_of}
use Rattle.little_endian.specs.Samples.{bytes}
use Rattle.tape.specs.declared.desk.Desk.{Desk}
use Rattle.tape.specs.declared.desk.Desk.TheVariants.{Empty}
use Rattle.tape.specs.Steps.{Stepped, wants, done, refused, stepped}

-- a command that was carried out: behind how many bytes of the tape it ends, and the bytes that it put out
pub record Order : Type 0 where
  pub end : ℕ
  pub output : List ℕ

-- the commands that were carried out, the number of the refusal that ended the tape (0: none), and how many bytes
-- were read up to then
pub record Played : Type 0 where
  pub orders : List Order
  pub number : ℕ
  pub read : ℕ

-- the bytes that a tape puts out
unfoldable pub output_of : List Order → List ℕ
output_of [] = []
output_of (o ∷ os) = o.output ++ output_of os

-- a tape that ends where a field is wanted: between commands, or inside one (E10); the bytes l of it are left, from
-- the place `at` on
abbrev pub ended_at : ℕ → List ℕ → Played
ended_at at l = record { orders = []; number = cond (eqb (length l) 0) 0 (number_of Cut); read = at + length l }

abbrev pub stopped_at : ℕ → ℕ → Played
stopped_at at number = record { orders = []; number = number; read = at }

abbrev pub preceded : Order → Played → Played
preceded o p = record { orders = o ∷ p.orders; number = p.number; read = p.read }

-- what comes of one command and, where it is carried out, of the rest
abbrev pub played_on : (ℕ → Desk → List ℕ → Played) → ℕ → List ℕ → Stepped → Played
played_on rest at l (wants k) = ended_at at l
played_on rest at l (refused r read) = stopped_at (at + read) (number_of r)
played_on rest at l (done d used xs) = preceded (record { end = at + used; output = bytes xs }) (rest (at + used) d (drop used l))

-- O10: at most n commands, from the place `at` of the tape on; no tape has more commands than bytes
unfoldable pub plays : ℕ → ℕ → Desk → List ℕ → Played
plays zero at d l = ended_at at l
plays (suc n) at d l = played_on (plays n) at l (stepped d l)

unfoldable pub played : List ℕ → Played
played l = plays (suc (length l)) 0 Empty l

-- ---- O12: a tape that is cut behind n bytes
-- the commands that are whole within n bytes
unfoldable pub up_to : ℕ → List Order → List Order
up_to n [] = []
up_to n (o ∷ os) = cond (leb o.end n) (o ∷ up_to n os) []

-- whether n bytes end between commands, the first of which begins at the place `at`
unfoldable pub between : ℕ → ℕ → List Order → Bool
between at n [] = eqb n at
between at n (o ∷ os) = cond (leb o.end n) (between o.end n os) (eqb n at)

-- what the commands come to with the tape cut there
abbrev pub cut_at : ℕ → ℕ → List Order → Played
cut_at at n os = record { orders = up_to n os; number = cond (between at n os) 0 (number_of Cut); read = n }

-- the whole tape comes to w, and cut behind n bytes to c; both begin at the place `at`
pub record CutOff (at n : ℕ) (w c : Played) : Type 0 where
  -- if the whole tape is refused within n bytes, nothing changes
  pub refused : 0 < w.number → w.read ≤ n → c ≡ w
  -- else the commands that are whole within n bytes are carried out, with no refusal if the cut is between commands,
  -- and E10 if it is inside one
  pub else-cut : (w.number ≡ 0) ⊎ (n < w.read) → c ≡ cut_at at n w.orders
