-- Which set-up is refused, and the parameters of one that is accepted. Definitions only.
use Rattle.std.specs.Prelude.{ℕ, ◌&&◌, List, [], ◌∷◌, Float, Result, Ok, Err}
use Rattle.std.specs.Float.{binary64}
use Rattle.std.specs.Float.Ieee.Scale.{finite}
use Rattle.ieee.specs.Notation.{◌⊠◌, zero₀, decimal}
use Rattle.values.specs.declared.error.Refusal.TheVariants.{Pace, Width, Damping, Pull, Slope, Gains}
use Rattle.values.specs.Refusal.{number_of}
use Rattle.checks.specs.Range.{in_range, positive}
use Rattle.checks.specs.Table.{Row, first_of}
use Rattle.timing.specs.declared.params.Ted.{Ted}
use Rattle.timing.specs.declared.params.Params.{Params}
use Rattle.timing.specs.Gains.{kp_of, ki_of}
use Rattle.values.specs.declared.error.Refusal.{Refusal}

-- T4: a set-up's answer: the parameters, or why it is refused
abbrev pub Tuning : Type 0
Tuning = Result Params Refusal

-- T3: the parameters with given gains, and the integrator's limit
abbrev pub params_with : Float → Ted → Float → Float → Float → Float → Float → Float → Params
params_with sps ted bw damping dev gain kp ki =
    record { sps = sps; ted = ted; loop_bw = bw; damping = damping; max_deviation = dev; ted_gain = gain; kp = kp; ki = ki; lim = dev ⊠ sps }

-- E1 to E6: what each row of the table asks of a set-up, in order
abbrev pub rows : Float → Float → Float → Float → Float → List Row
rows sps bw damping dev gain =
    record { passed = in_range (decimal binary64 2 1) sps (decimal binary64 1000000 1); reason = Pace }
    ∷ record { passed = in_range (decimal binary64 1 10000) bw (decimal binary64 1 10); reason = Width }
    ∷ record { passed = in_range (decimal binary64 1 10) damping (decimal binary64 4 1); reason = Damping }
    ∷ record { passed = in_range zero₀ dev (decimal binary64 5 100); reason = Pull }
    ∷ record { passed = positive gain; reason = Slope }
    ∷ record { passed = finite (kp_of sps bw damping gain) && finite (ki_of sps bw damping gain); reason = Gains }
    ∷ []

-- T4: the answer of a set-up: the first row that is not passed refuses it
unfoldable pub tuned : Float → Ted → Float → Float → Float → Float → Tuning
tuned sps ted bw damping dev gain = first_of Err (rows sps bw damping dev gain) (Ok (params_with sps ted bw damping dev gain (kp_of sps bw damping gain) (ki_of sps bw damping gain)))

-- K7: its number (0: accepted)
abbrev pub tuning_number : Tuning → ℕ
tuning_number (Ok p) = 0
tuning_number (Err n) = number_of n
