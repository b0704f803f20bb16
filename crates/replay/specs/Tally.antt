-- The tally of recorded answers that were played. Definitions only.
use Rattle.std.specs.Prelude.{ℕ, suc, ◌+◌, ◌%◌, ◌^◌, Bool, cond, replicate, nat_lt, slice_index, slice_set}
use Rattle.replay.specs.declared.tally.Tally.{Tally}

-- of a kind of lines; the malformed lines' where there is none
abbrev pub place_of : ℕ → ℕ
place_of p = cond (nat_lt p 14) p 12

abbrev pub one_more : ℕ → ℕ
one_more n = (n + 1) % 2 ^ 64

-- a line at its place, among all lines and, if it differs, among those
abbrev pub counted : Tally → ℕ → Bool → Tally
counted t p agrees = record {
  places = slice_set t.places (place_of p) (one_more (slice_index t.places (place_of p)));
  all = one_more t.all;
  differ = cond agrees t.differ (one_more t.differ);
}

-- From one tally to another so many lines were counted, one after another, and nothing else was done. A line has one
-- answer, or more than one.
pub data Tallied : ℕ → Tally → Tally → Type 0 where
  none : {t : Tally} → Tallied 0 t t
  line : {n : ℕ} {t u : Tally} (p : ℕ) (agrees : Bool) → Tallied n t u → Tallied (suc n) t (counted u p agrees)
  answer : {n : ℕ} {t u : Tally} (p : ℕ) (agrees : Bool) → Tallied (suc n) t u → Tallied (suc n) t (counted u p agrees)

-- after so many lines: where 2^26 were read the input may go on, which counts as one answer that differs
abbrev pub ended : Tally → ℕ → Tally
ended t n = record { places = t.places; all = t.all; differ = cond (nat_lt n (2 ^ 26)) t.differ (one_more t.differ) }

abbrev pub none_counted : Tally
none_counted = record { places = replicate 14 0; all = 0; differ = 0 }

-- what the lines of an input come to: some were counted, one after another, and then the end of the input
pub data Replayed : Tally → Type 0 where
  replayed : {n : ℕ} {t : Tally} → Tallied n none_counted t → Replayed (ended t n)

-- no damaged line yet, with as many counted as differing as are written
abbrev pub none_damaged : Tally
none_damaged = record { places = replicate 14 0; all = 0; differ = 20 }
