-- What holds of every state that a set-up, a reset or a run has given, and while a run loops. No sample enters.
-- Definitions only.
use Rattle.std.specs.Prelude.{◌≡◌, ℕ, ◌+◌, ◌^◌, ◌<◌, ◌≤◌, Bool, true, T, Ok, Err}
use Rattle.std.specs.Float.{binary64}
use Rattle.std.specs.Float.Ieee.{neg, le, lt, fits}
use Rattle.ieee.specs.Notation.{◌⊞◌, ◌⊟◌, zero₀, one₀}
use Rattle.timing.specs.declared.params.Params.{Params}
use Rattle.timing.specs.declared.clock.Clock.{Clock}
use Rattle.timing.specs.Setup.{Tuning, tuned}
use Rattle.timing.specs.Clock.{mid_index}

-- the parameters are those of a set-up that is accepted; its sps is an f64
pub record Tuned (p : Params) : Type 0 where
  pub sps-fits : T (fits binary64 p.sps)
  pub accepted : tuned p.sps p.ted p.loop_bw p.damping p.max_deviation p.ted_gain ≡ Ok p

abbrev pub TuningGiven : Tuning → Type 0
TuningGiven (Ok p) = Tuned p
TuningGiven (Err n) = T true

-- T22: the ranges of fraction, spacing and integrator
pub record Steady (p : Params) (c : Clock) : Type 0 where
  pub mu-fits : T (fits binary64 c.mu)
  pub mu-low : T (le zero₀ c.mu)
  pub mu-high : T (lt c.mu one₀)
  pub omega-fits : T (fits binary64 c.omega)
  pub omega-low : T (le (p.sps ⊟ p.lim) c.omega)
  pub omega-high : T (le c.omega (p.sps ⊞ p.lim))
  pub integ-low : T (le (neg p.lim) c.integ)
  pub integ-high : T (le c.integ p.lim)

-- with n samples of input ahead, `mid` if the middle is lacking: the next place needed is 1 or more, and T23 bounds i
pub record Running (p : Params) (c : Clock) (mid : Bool) (n : ℕ) : Type 0 where
  pub params : Tuned p
  pub steady : Steady p c
  pub first : 1 ≤ c.i
  pub far : c.i ≤ n + 1312501
  pub mid-first : T mid → 1 ≤ mid_index c

-- ---- the clock of a given state, and while a run loops over n samples of input: what its steps require
abbrev pub GivenClock : Clock → Bool → ℕ → Type 0
GivenClock c mid n = (p : Params) × Running p c mid n

-- whose middle is lacking
abbrev pub GivenMiddle : Clock → Type 0
GivenMiddle c = (n : ℕ) × GivenClock c true n

-- whose strobe is available
pub record GivenStrobe (p : Params) (c : Clock) : Type 0 where
  pub mid : Bool
  pub ahead : ℕ
  pub running : Running p c mid ahead
  pub there : c.i ≤ ahead
  -- a slice has fewer than 2^63 places
  pub small : ahead < 2 ^ 63
