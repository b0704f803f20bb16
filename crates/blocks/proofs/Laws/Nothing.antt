-- A timing run on nothing changes nothing and has no strobe, from any given state. Over any sample type.
-- Assumes nothing.
use mathlib.Core.Path.{◌≡◌, refl, ap, ◌∙◌}
use mathlib.Core.Bool.{Bool, true, false, not, ◌&&◌, and-false}
use mathlib.Core.List.{List, [], map}
use Prim.Native.Nat.{ℕ, zero, suc, ◌+◌, ◌≤◌}
use native.Mathlib.Nat.{sub-zero}
use native.Mathlib.Omega.{arith}
use borrow.Author.Tests.{le-ltb}
use Rattle.ieee.proofs.Laws.Test.{yes}
use Rattle.timing.specs.Sample.{Ops}
use Rattle.timing.specs.Clock.{mid_index}
use Rattle.timing.specs.Loop.{Strobes, lacks, there, mid_taken, ready, stopped, runs, consumed, track_back}
use Rattle.timing.specs.Run.{Sync, Given, line, hist_at, Ran, ran}
use Rattle.timing.proofs.Laws.Taken.{mid_by}
use Rattle.blocks.specs.Instants.{clocks, instant_of, instants}

module _ {A : Type 0} (o : Ops A) (s : Sync A) (given : Given s) where
  abbrev bare : List A
  bare = line s.hist []

  -- no value is available
  nothing-there : (i : ℕ) → 1 ≤ i → there bare i ≡ false
  nothing-there i h = le-ltb (i + 2) 3 (omega arith)

  no_middle : mid_taken o s.params bare s.track ≡ s.track
  no_middle = go (lacks s.params s.track) refl
    where
      go : (b : Bool) → lacks s.params s.track ≡ b → mid_taken o s.params bare s.track ≡ s.track
      go true h = mid_by o s.params bare s.track h (nothing-there (mid_index s.track.clock) (given.mid-first (yes h)))
      go false h = mid_by o s.params bare s.track h refl

  not-ready : ready s.params bare s.track ≡ false
  not-ready = ap (λ (b : Bool). not (lacks s.params s.track) && b) (nothing-there s.track.clock.i given.first) ∙ and-false (not (lacks s.params s.track))

  no-strobes : (m : ℕ) → (runs o s.params bare m s.track ≡ stopped s.track) × (clocks o s.params bare m s.track ≡ [])
  unfolding runs clocks
  no-strobes zero = (refl, refl)
  no-strobes (suc m) = rw (no_middle, not-ready) (refl, refl)

  pub ran-nothing : (m : ℕ) → ran o s [] m ≡ record { state = s; taken = 0; values = [] }
  unfolding ran consumed hist_at track_back
  ran-nothing m =
      let t = s.track in
      let c = t.clock in
      let up_to : Strobes A → ℕ → Ran A = λ r k. record { state = record { params = s.params; hist = hist_at o bare k; track = track_back r.last k }; taken = k; values = r.values } in
      let none : consumed s.params t 0 ≡ 0 = omega arith in
      ap (λ (r : Strobes A). up_to r (consumed s.params r.last 0)) (no-strobes m).0
      ∙ ap (up_to (stopped t)) none
      ∙ (λ j. record {
        state = record { params = s.params; hist = s.hist; track = record { clock = record { i = sub-zero c.i j; mu = c.mu; omega = c.omega; integ = c.integ }; y_prev = t.y_prev; d_prev = t.d_prev; mid = t.mid; mid_ready = t.mid_ready; started = t.started } };
        taken = 0;
        values = [];
      })

  pub instants-nothing : (m : ℕ) → instants o s [] m ≡ []
  instants-nothing m = ap (map instant_of) (no-strobes m).1
