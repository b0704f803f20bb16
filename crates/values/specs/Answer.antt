-- K7: what each case of a run's answer stands for: its number, 0 if it is done (A2), and its two counts,
-- which are 0 if it is refused (A7). Definitions only.
use Rattle.std.specs.Prelude.{ℕ, Result, Ok, Err}
use Rattle.values.specs.Refusal.{number_of}
use Rattle.values.specs.declared.progress.Progress.{Progress}
use Rattle.values.specs.declared.error.Refusal.{Refusal}

-- A2: a call's answer: its counts, or why it is refused
abbrev pub Answer : Type 0
Answer = Result Progress Refusal

abbrev pub number : Answer → ℕ
number (Ok q) = 0
number (Err n) = number_of n

abbrev pub consumed : Answer → ℕ
consumed (Ok q) = q.consumed
consumed (Err n) = 0

abbrev pub produced : Answer → ℕ
produced (Ok q) = q.produced
produced (Err n) = 0
