-- The instants of a run's strobes, counted in samples from the first sample of its input. Definitions only.
use Rattle.std.specs.Prelude.{ℕ, zero, suc, cond, List, [], ◌∷◌, map, ℤ, pos, ◌+ℤ◌, ◌-ℤ◌, Float}
use Rattle.timing.specs.declared.params.Params.{Params}
use Rattle.timing.specs.declared.clock.Clock.{Clock}
use Rattle.timing.specs.Sample.{Ops}
use Rattle.timing.specs.Loop.{Track, value_at, mid_taken, strobed, ready}
use Rattle.timing.specs.Run.{Sync, line}

-- the clock at each strobe of a run: `runs` of timing, with the clock in the place of the value
unfoldable pub clocks : {A : Type 0} → Ops A → Params → List A → ℕ → Track A → List Clock
clocks o p l zero t = []
clocks o p l (suc n) t =
    let u = mid_taken o p l t in
    let y = value_at o l u.clock.i u.clock.mu in
    cond (ready p l u) (u.clock ∷ clocks o p l n (strobed o p u y)) []

-- B6: a sample, and the fraction of a sample after it; neither is rounded
pub record Instant : Type 0 where
  pub sample : ℤ
  pub part : Float

-- B6: the instant of the strobe at a clock, counted as in T21
abbrev pub instant_of : Clock → Instant
instant_of c = record { sample = pos c.i -ℤ pos 3; part = c.mu }

-- counted from k samples earlier
abbrev pub later : ℕ → Instant → Instant
later k x = record { sample = pos k +ℤ x.sample; part = x.part }

-- the instants of a run's strobes, one for each value
abbrev pub instants : {A : Type 0} → Ops A → Sync A → List A → ℕ → List Instant
instants o s xs places = map instant_of (clocks o s.params (line s.hist xs) places s.track)
