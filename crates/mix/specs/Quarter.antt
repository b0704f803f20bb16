-- Q2: phases turned by quarters; a pair as a sample; and what a table needs for its pairs to turn with the phase.
-- Definitions only.
use Rattle.std.specs.Prelude.{ℕ, ◌+◌, ◌*◌, ◌%◌, ◌^◌, ◌≤◌, List, slice_index_or, Float}
use Rattle.std.specs.Float.{nan}
use Rattle.ieee.specs.Alike.{Opposite}
use Rattle.values.specs.declared.sample.C32.{C32}
use Rattle.mix.specs.declared.oscillator.Pair.{Pair}

-- Q2: the phase p, m quarter turns on, modulo 2^32
abbrev pub quarters_on : ℕ → ℕ → ℕ
quarters_on m p = (p + m * 2 ^ 30) % 2 ^ 32

-- cosine and sine as real and imaginary part
abbrev pub sample_of : Pair → C32
sample_of q = record { re = q.c; im = q.s }

-- the entry half a turn on is the opposite, as C11 says of the cosine table
abbrev pub OppositeHalves : List Float → Type 0
OppositeHalves table = (j : ℕ) → j ≤ 2048 → Opposite (slice_index_or table (j + 2048) nan) (slice_index_or table j nan)
