-- The state of the loop: which set-up is refused and which state a set-up, a reset or a setter gives; and what holds
-- of every such state. Definitions only.
use Rattle.std.specs.Prelude.{◌≡◌, ℕ, ◌^◌, ◌<◌, true, false, cond, T, List, [], ◌∷◌, is_nan, Float, Result, Ok, Err}
use Rattle.std.specs.Float.{binary32, binary64}
use Rattle.std.specs.Float.Ieee.{neg, le}
use Rattle.ieee.specs.Notation.{zero₀, decimal}
use Rattle.values.specs.declared.error.Refusal.TheVariants.{Width, Damping, Pull}
use Rattle.values.specs.Refusal.{number_of}
use Rattle.numbers.specs.Denormal.{flushed}
use Rattle.numbers.specs.Narrowing.{narrowed}
use Rattle.numbers.specs.Range.{limited}
use Rattle.checks.specs.Range.{in_range}
use Rattle.checks.specs.Table.{Row, first_of}
use Rattle.constellations.specs.declared.kinds.CostasConstellation.{CostasConstellation}
use Rattle.carrier.specs.declared.params.Params.{Params}
use Rattle.carrier.specs.declared.state.CostasState.{CostasState}
use Rattle.carrier.specs.Gains.{kp_of, ki_of}
use Rattle.values.specs.declared.error.Refusal.{Refusal}

-- a set-up's answer: the state, or why it is refused
abbrev pub SetUp : Type 0
SetUp = Result CostasState Refusal

-- C5: the values of a set-up with its gains (C3) and the limit of the frequency
unfoldable pub params_of : Float → Float → Float → Params
params_of bw damping offset =
    record { loop_bw = bw; damping = damping; max_offset = offset; kp = kp_of bw damping; ki = ki_of bw damping; max = flushed binary32 (narrowed offset) }

-- C7: the state after a set-up or a reset
abbrev pub fresh : CostasConstellation → Params → CostasState
fresh c p = record { constellation = c; params = p; track = record { nco = record { phase = 0; freq = zero₀ }; lock = record { level = zero₀; locked = false } } }

-- C4: the tests of a set-up in their order, those of E2, E3 and E4
abbrev pub rows : Float → Float → Float → List Row
rows bw damping offset =
    record { passed = in_range (decimal binary64 1 10000) bw (decimal binary64 2 10); reason = Width }
    ∷ record { passed = in_range (decimal binary64 1 10) damping (decimal binary64 4 1); reason = Damping }
    ∷ record { passed = in_range zero₀ offset (decimal binary64 25 100); reason = Pull }
    ∷ []

-- C4: a set-up's answer; a refused one has no state (A6)
unfoldable pub opened : CostasConstellation → Float → Float → Float → SetUp
opened c bw damping offset = first_of Err (rows bw damping offset) (Ok (fresh c (params_of bw damping offset)))

-- K7: its number (0: accepted)
abbrev pub set_up_number : SetUp → ℕ
set_up_number (Ok s) = 0
set_up_number (Err n) = number_of n

-- p is what an accepted set-up works out
abbrev pub Accepted : CostasConstellation → Params → Type 0
Accepted c p = opened c p.loop_bw p.damping p.max_offset ≡ Ok (fresh c p)

-- C8: the phase is set, and all else stays
abbrev pub phase_set : CostasState → ℕ → CostasState
phase_set s phase = record { constellation = s.constellation; params = s.params; track = record { nco = record { phase = phase; freq = s.track.nco.freq }; lock = s.track.lock } }

-- C9: the frequency that is taken for freq
unfoldable pub frequency_of : Float → Float → Float
frequency_of freq max = let f = flushed binary32 (narrowed freq) in cond (is_nan f) zero₀ (limited f max)

-- C9: the frequency is set, and all else stays
abbrev pub frequency_set : CostasState → Float → CostasState
frequency_set s freq = record { constellation = s.constellation; params = s.params; track = record { nco = record { phase = s.track.nco.phase; freq = frequency_of freq s.params.max }; lock = s.track.lock } }

-- ---- A9: a given state, from a set-up, a reset, a setter or a run: all that a public call requires
pub record Given (s : CostasState) : Type 0 where
  -- its parameters are those of a set-up that is accepted
  pub accepted : Accepted s.constellation s.params
  -- C22: the phase has 32 bits
  pub phase-in : s.track.nco.phase < 2 ^ 32
  -- C22: -max ≤ frequency ≤ max
  pub freq-low : T (le (neg s.params.max) s.track.nco.freq)
  pub freq-high : T (le s.track.nco.freq s.params.max)

abbrev pub SetUpGiven : SetUp → Type 0
SetUpGiven (Ok s) = Given s
SetUpGiven (Err n) = T true
