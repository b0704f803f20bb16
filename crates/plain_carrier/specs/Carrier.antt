-- The carrier loop's state as a plain record. Definitions only.
use Rattle.std.specs.Prelude.{ℕ, ◌<◌, false, List, Float, Ok, Err}
use Rattle.ieee.specs.Notation.{zero₀}
use Rattle.values.specs.Refusal.{number_of}
use Rattle.carrier.specs.declared.state.CostasState.{CostasState}
use Rattle.carrier.specs.State.{SetUp}
use Rattle.carrier.specs.State as carrier
use Rattle.carrier.specs.Run.{Outcome}
use Rattle.plain_carrier.specs.declared.Carrier.{Carrier}
use Rattle.plain_carrier.specs.declared.CarrierSetUp.{CarrierSetUp}
use Rattle.plain.specs.Codes.{constellation_of, constellation_code}

-- L1: the state that a record stands for
abbrev pub state_of : Carrier → CostasState
state_of x = record { constellation = constellation_of x.constellation; params = x.params; track = x.track }

-- L1: the record of a state
abbrev pub record_of : CostasState → Carrier
record_of s = record { constellation = constellation_code s.constellation; params = s.params; track = s.track }

-- L3: zeros, in the place of the state of a refused set-up
abbrev pub none : Carrier
none =
    record {
      constellation = 0;
      params = record { loop_bw = zero₀; damping = zero₀; max_offset = zero₀; kp = zero₀; ki = zero₀; max = zero₀ };
      track = record { nco = record { phase = 0; freq = zero₀ }; lock = record { level = zero₀; locked = false } };
    }

-- L3: a set-up's answer
abbrev pub set_up_of : SetUp → CarrierSetUp
set_up_of (Ok s) = record { number = 0; state = record_of s }
set_up_of (Err n) = record { number = number_of n; state = none }

-- a call's number, the record after it and what the output holds
abbrev pub outcome_of : ℕ → Carrier → List Float → Outcome
outcome_of n x ys = record { number = n; state = state_of x; output = ys }

-- A9: a record that a set-up, a reset, a setter or a call has given: the state is such a one, and the constellation's
-- code is one of the three
pub record Given (x : Carrier) : Type 0 where
  pub state : carrier.Given (state_of x)
  pub constellation : x.constellation < 3
