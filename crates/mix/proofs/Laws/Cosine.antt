-- The oscillator over the cosine table: at the phase 0 it is (1, 0), half an entry on it is midway, and m quarter
-- turns on the phase turn it m times. Assumes nothing.
use Rattle.std.proofs.Common.{◌≡◌, ℕ, ◌^◌, ◌<◌, refl}
use lib.Ieee.{binary32, round, add, sub, mul, of_bits}
use Rattle.ieee.specs.Notation.{zero₀, half₀, one₀}
use Rattle.values.specs.Turn.{Turned}
use Rattle.cosine.specs.Bits.{cos_bits}
use Rattle.cosine.specs.Table.{cos_list, cos_at}
use Rattle.cosine.proofs.Laws.Rules.{cos-rules}
use Rattle.mix.specs.Oscillator.{pair_at}
use Rattle.mix.specs.Quarter.{quarters_on, sample_of}
use Rattle.mix.proofs.Laws.Quarter.{quarter-turns}

pub cosine-start : pair_at cos_list 0 ≡ record { c = one₀; s = zero₀ }
unfolding cos_list cos_bits of_bits round add sub mul
cosine-start = refl

-- half an entry on: 1 - 10 × 2^-24, where entry 1 is 1 - 20 × 2^-24, and half of the sine there
pub cosine-midway : pair_at cos_list (2 ^ 19) ≡ record { c = of_bits binary32 0x3f7ffff6; s = mul binary32 (cos_at 3073) half₀ }
unfolding cos_list cos_bits of_bits round add sub mul
cosine-midway = refl

pub cosine-quarter-turns : (m p : ℕ) → p < 2 ^ 32 → Turned m (sample_of (pair_at cos_list p)) (sample_of (pair_at cos_list (quarters_on m p)))
cosine-quarter-turns = quarter-turns cos_list cos-rules.half-turn
