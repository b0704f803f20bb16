-- A11: what the original checks while it runs: where one of these failed, it would answer `Internal`.
-- Definitions only.
use Rattle.std.specs.Prelude.{ℕ, ◌+◌, ◌-◌, ◌^◌, ◌<◌, ◌≤◌, min, Bool, cond, T, Float}
use Rattle.std.specs.Float.Ieee.Scale.{finite}
use Rattle.numbers.specs.Whole.{floor_plus}
use Rattle.timing.specs.declared.params.Params.{Params}
use Rattle.timing.specs.declared.clock.Clock.{Clock}
use Rattle.timing.specs.Clock.{mid_index, moved}

-- A11: the checks of a run over n input samples, `mid` if the middle is lacking
pub record Inside (p : Params) (c : Clock) (mid : Bool) (n : ℕ) : Type 0 where
  -- `mid_position`: the sum of i and the floor, which is no truncated one, has a sample before it
  pub middle : T mid → (1 ≤ mid_index c) × (mid_index c ≤ c.i)
  -- `window`: so has the strobe's place
  pub strobe : 1 ≤ c.i
  -- the sum of i and the floor after a strobe that is available
  pub next : c.i ≤ n → n < 2 ^ 63 → (e : Float) → T (finite e) → c.i + floor_plus (moved p c e) < 2 ^ 64
  -- the count to consume is the place needed next, less 1
  pub pending : 1 ≤ cond mid (mid_index c) c.i
  -- `at`: the new history ends at an index of the n + 3 samples
  pub history : min (cond mid (mid_index c) c.i - 1) n + 2 < n + 3
