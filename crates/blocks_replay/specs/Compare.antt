-- P7: when two cuts of a recording give the same, and how cuts are counted. Definitions only.
use Rattle.std.specs.Prelude.{ℕ, ◌+◌, ◌%◌, ◌^◌, Bool, cond, ◌&&◌, List, [], ◌∷◌, Option, Some, None, Float}
use Rattle.answers.specs.Slices.{same_floats, same_words}
use Rattle.values.specs.declared.error.Refusal.{Refusal}
use Rattle.values.specs.Refusal.{number_of}
use Rattle.replay_states.specs.Words.{timing_words, carrier_words}
use Rattle.blocks_replay.specs.declared.calls.Received.{Received}
use Rattle.blocks_replay.specs.declared.tally.Tally.{Tally}

-- ---- what a cut gives
-- the number of a refusal, and 0 where there is none
abbrev pub number_in : Option Refusal → ℕ
number_in None = 0
number_in (Some n) = number_of n

-- the symbol count, the number and the sums of the counts
abbrev pub sum_words : Received → List ℕ
sum_words s = s.receiver.count ∷ number_in s.refusal ∷ s.consumed ∷ s.produced ∷ []

-- these and every field of both loops
unfoldable pub same_received : Received → Received → Bool
same_received a b =
    same_words (sum_words a) (sum_words b)
    && (same_words (timing_words a.receiver.timing) (timing_words b.receiver.timing)
    && same_words (carrier_words a.receiver.carrier) (carrier_words b.receiver.carrier))

-- strobes and outputs, to the ends of the buffers
abbrev pub same_buffers : List Float → List Float → List Float → List Float → Bool
same_buffers zs zs' ys ys' = same_floats zs zs' && same_floats ys ys'

-- ---- the tally, in 64 bits
abbrev pub sum64 : ℕ → ℕ → ℕ
sum64 a b = (a + b) % 2 ^ 64

abbrev pub sum_of : Tally → Tally → Tally
sum_of a b = record { consumed = sum64 a.consumed b.consumed; produced = sum64 a.produced b.produced; cuts = sum64 a.cuts b.cuts; differ = sum64 a.differ b.differ }

abbrev pub one_cut : Bool → Tally
one_cut agrees = record { consumed = 0; produced = 0; cuts = 1; differ = cond agrees 0 1 }

abbrev pub counted : Tally → Bool → Tally
counted t agrees = sum_of t (one_cut agrees)
