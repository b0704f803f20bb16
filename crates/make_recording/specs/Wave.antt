-- P5: the samples between two symbols: a raised-cosine transition, turned by the carrier. Definitions only.
use Rattle.std.specs.Prelude.{ℕ, ◌+◌, ◌*◌, ◌%◌, ◌^◌, List, [], ◌∷◌, Float}
use Rattle.ieee.specs.Notation.{◌⊕◌, ◌⊖◌, ◌⊗◌, half₀}
use Rattle.values.specs.declared.sample.C32.{C32}
use Rattle.values.specs.Samples.{parts}
use Rattle.mix.specs.declared.oscillator.Pair.{Pair}
use Rattle.mix.specs.Oscillator.{pair_at}
use Rattle.make_recording.specs.declared.source.Source.{Source}
use Rattle.make_recording.specs.Source.{sample_step}

-- from a to b, where the cosine has come down to c: a + (b - a) × (1/2 - c/2)
abbrev pub on_the_way : Float → Float → Float → Float
on_the_way a b c = a ⊕ (b ⊖ a) ⊗ (half₀ ⊖ half₀ ⊗ c)

-- x turned on by the angle of a cosine and a sine
abbrev pub turned_by : C32 → Pair → C32
turned_by x q = record { re = x.re ⊗ q.c ⊖ x.im ⊗ q.s; im = x.re ⊗ q.s ⊕ x.im ⊗ q.c }

-- 0.3 of an eighth of a turn
abbrev pub first_turn : ℕ
first_turn = 0x999999a

-- sample j of the four that lead to the next symbol; the first stands 0.3 of a sample behind the last symbol's
-- instant, and each next one an eighth of a turn on
abbrev pub sample_at : List Float → Source → ℕ → C32
sample_at table s j =
    let way = (pair_at table (first_turn + j * 2 ^ 29)).c in
    turned_by (record { re = on_the_way s.from.re s.to.re way; im = on_the_way s.from.im s.to.im way })
    (pair_at table ((s.phase + j * sample_step) % 2 ^ 32))

abbrev pub four_of : List Float → Source → List Float
four_of table s = parts (sample_at table s 0 ∷ sample_at table s 1 ∷ sample_at table s 2 ∷ sample_at table s 3 ∷ [])
