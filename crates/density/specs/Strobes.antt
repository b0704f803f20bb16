-- How many strobes a run can take, and what that says of a call that has as many places as samples.
-- Definitions only.
use Rattle.std.specs.Prelude.{◌≡◌, ℕ, ◌+◌, ◌*◌, ◌≤◌, ◌<◌}
use Rattle.sample_calls.specs.Call.{Outcome}

-- how far apart two strobes are at least, in whole 1/1,024 of a sample: 3/4 of a spacing of 1.9 samples
abbrev pub apart : ℕ
apart = 1459

-- k strobes are no more than n samples can give: from the first to the last it is less than n samples, so that
-- 1,459 k ≤ 1,024 n + 1,458
abbrev pub Sparse : ℕ → ℕ → Type 0
Sparse n k = apart * k < 1024 * n + apart

-- the places of a call and the samples that it has at most; and the strobes that it takes at most
abbrev pub room : ℕ
room = 2048

abbrev pub strobes_most : ℕ
strobes_most = 1438

-- a call is not refused, and takes all of its n samples; places are left
pub record TakesAll (n : ℕ) (o : Outcome) : Type 0 where
  pub number : o.number ≡ 0
  pub consumed : o.consumed ≡ n
  pub produced : o.produced ≤ strobes_most
