-- What is said of a run's strobes beside those of another run: that it goes on after them, that it starts some places
-- on, how far it gets. Definitions only.
use Rattle.std.specs.Prelude.{◌≡◌, ℕ, ◌+◌, ◌-◌, ◌≤◌, List, ◌++◌, length}
use Rattle.timing.specs.declared.params.Params.{Params}
use Rattle.timing.specs.declared.clock.Clock.{Clock}
use Rattle.timing.specs.Sample.{Ops}
use Rattle.timing.specs.Loop.{Track, Strobes, runs}
use Rattle.blocks.specs.Instants.{clocks}

-- on the samples l, with n places in all: the strobes r and their clocks go on after
-- the strobes q, whose clocks are cs
abbrev pub Continues : {A : Type 0} → Ops A → Params → List A → ℕ → Strobes A → List Clock → Strobes A → List Clock → Type 0
Continues o p l n q cs r ds =
    let k = n - length q.values in
    (r ≡ record { values = q.values ++ (runs o p l k q.last).values; last = (runs o p l k q.last).last }) × (ds ≡ cs ++ clocks o p l k q.last)

-- k places on
abbrev pub clock_on : ℕ → Clock → Clock
clock_on k c = record { i = c.i + k; mu = c.mu; omega = c.omega; integ = c.integ }

abbrev pub track_on : {A : Type 0} → ℕ → Track A → Track A
track_on k t = record { clock = clock_on k t.clock; y_prev = t.y_prev; d_prev = t.d_prev; mid = t.mid; mid_ready = t.mid_ready; started = t.started }

abbrev pub strobes_on : {A : Type 0} → ℕ → Strobes A → Strobes A
strobes_on k r = record { values = r.values; last = track_on k r.last }

-- with n samples of input, how far a run from place i gets, and how many values it has
abbrev pub Onward : {A : Type 0} → ℕ → ℕ → Strobes A → Type 0
Onward n i r = (i + length r.values ≤ r.last.clock.i) × (length r.values ≤ n + 1 - i)
