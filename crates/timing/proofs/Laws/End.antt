-- The end of a run, for any sample type: what its steps ask of the track that the loop left, and that they give what
-- the definition says. Assumes nothing.
use Rattle.std.proofs.Common.{◌≡◌, ℕ, ◌-◌, ◌≤◌, min, Bool, cond, List, length, sym, ap, ◌∙◌, subst, arith}
use lib.Ieee.{Float}
use Rattle.timing.specs.Sample.{Ops}
use Rattle.timing.specs.Form.{Form}
use Rattle.timing.specs.Clock.{mid_index}
use Rattle.timing.specs.Given.{Running, GivenClock}
use Rattle.timing.specs.Loop.{Track, lacks, runs, pending, consumed, track_back}
use Rattle.timing.specs.Run.{Hist, Sync, Given, line, hist_at, ran, done, TrackRunning}
use Rattle.timing.proofs.Laws.Clock.{running-pending, running_more}
use Rattle.timing.proofs.Laws.Loop.{runs-running}
use Rattle.timing.proofs.Laws.Shown.{Ended}

-- u is the track that the loop left, and `lacking` whether its middle is lacking
module _ {A : Type 0} (o : Ops A) (s : Sync A) (xs : List A) (places n : ℕ) (count : length xs ≡ n) {u : Track A} {lacking : Bool} (lacks-it : lacking ≡ lacks s.params u) where
  module _ (last : u ≡ (runs o s.params (line s.hist xs) places s.track).last) (given : Given s) where
    left-running : Running s.params u.clock lacking n
    left-running =
        let p = s.params in
        let g = runs-running o p (line s.hist xs) n (omega arith) places s.track (running_more p s.track.clock (lacks p s.track) n given) in
        subst (λ (b : Bool). Running p u.clock b n) (sym lacks-it) (subst (TrackRunning p n) (sym last) g)

    pub end-asks : GivenClock u.clock lacking n
    end-asks = (s.params, left-running)

    pub end_back : {k : ℕ} → k ≡ min (cond lacking (mid_index u.clock) u.clock.i - 1) n → k ≤ u.clock.i
    end_back e = let h = running-pending s.params u.clock lacking n left-running in omega arith

  -- k is the count consumed, h the history after it
  pub ends-done : (m : Form A) (ys : List Float) {produced : ℕ} {zs : List Float} → Ended m (runs o s.params (line s.hist xs) places s.track) ys u produced zs → {k : ℕ} → k ≡ min (cond lacking (mid_index u.clock) u.clock.i - 1) n → {h : Hist A} → h ≡ hist_at o (line s.hist xs) k
      → record { number = 0; consumed = k; produced = produced; state = record { params = s.params; hist = h; track = track_back u k }; output = zs } ≡ done m.slice (ran o s xs places) ys
  unfolding ran consumed pending
  ends-done m ys {produced} {zs} got {k} e {h} f =
      let a : k ≡ consumed s.params u (length xs) = e ∙ (λ j. min (cond (lacks-it j) (mid_index u.clock) u.clock.i - 1) (sym count j)) in
      let b : k ≡ (ran o s xs places).taken = a ∙ ap (λ (v : Track A). consumed s.params v (length xs)) got.0 in
      let g = f ∙ ap (hist_at o (line s.hist xs)) b in
      λ j. record { number = 0; consumed = b j; produced = got.1.0 j; state = record { params = s.params; hist = g j; track = track_back (got.0 j) (b j) }; output = got.1.1 j }
