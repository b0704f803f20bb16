-- Each strobe moves a timing run on by a sample or more, so a run takes no more strobes than it has samples.
-- Over any sample type. Assumes nothing.
use mathlib.Core.Path.{◌≡◌, refl, subst}
use mathlib.Core.Bool.{Bool, true, false, cond}
use mathlib.Core.List.{List}
use Prim.Native.Nat.{ℕ, zero, suc, ◌+◌, ◌-◌, ◌≤◌, ◌<◌}
use native.Mathlib.Omega.{arith}
use lib.Dec.{T}
use lib.ListN.{length}
use lib.Ieee.{Float}
use lib.Ieee.Scale.{finite}
use Rattle.timing.specs.declared.params.Params.{Params}
use Rattle.timing.specs.declared.clock.Clock.{Clock}
use Rattle.timing.specs.Sample.{Ops}
use Rattle.timing.specs.Clock.{advanced}
use Rattle.timing.specs.Given.{Running}
use Rattle.timing.specs.Loop.{Track, lacks, mid_taken, strobed, ready, stopped, more, runs, consumed, track_back}
use Rattle.timing.specs.Run.{Sync, Given, line, ran, TrackRunning}
use Rattle.timing.proofs.Laws.Strobe.{v-onward, advanced-i}
use Rattle.timing.proofs.Laws.Clock.{settled-finite, running_more}
use Rattle.timing.proofs.Laws.Loop.{value_here, ready-window, mid_taken-running, strobed-running, runs-running}
use Rattle.timing.proofs.Laws.Run.{ran-all}
use Rattle.timing.proofs.Laws.Taken.{mid-stays}
use Rattle.blocks.specs.Runs.{Onward}
use Rattle.blocks.proofs.Laws.Timing.{pending-first}

advanced-onward : (p : Params) (c : Clock) (b : Bool) (n : ℕ) → Running p c b n → (e : Float) → T (finite e) → c.i + 1 ≤ (advanced p c e).i
advanced-onward p c b n g e E =
    let a = advanced-i p c e g.params g.steady E in
    let d = v-onward p c e g.params g.steady E in
    omega arith

-- ---- with n samples of input after the history
module _ {A : Type 0} (o : Ops A) (p : Params) (l : List A) (n : ℕ) (long : length l ≡ n + 3) where
  strobed-onward : (s : Track A) (y : A) → TrackRunning p n s → s.clock.i + 1 ≤ (strobed o p s y).clock.i
  unfolding strobed
  strobed-onward s y g = advanced-onward p s.clock (lacks p s) n g _ (settled-finite s.started _)

  pub runs-onward : (m : ℕ) (s : Track A) → TrackRunning p n s → Onward n s.clock.i (runs o p l m s)
  unfolding runs
  runs-onward zero s g = (omega arith, omega arith)
  runs-onward (suc m) s g =
      let t = mid_taken o p l s in
      let f = mid_taken-running o p l n long s g in
      let y = value_here o l t in
      subst (λ (c : Clock). Onward n c.i (runs o p l (suc m) s)) (mid-stays o p l s)
      (go t (strobed o p t y) y (ready p l t) (λ e. (ready-window p l n long t e f).1) (strobed-onward t y f) (λ e. runs-onward m (strobed o p t y) (strobed-running o p l n long t y e f)))
    where
      go : (t v : Track A) (y : A) (b : Bool) → (b ≡ true → t.clock.i ≤ n) → t.clock.i + 1 ≤ v.clock.i → (b ≡ true → Onward n v.clock.i (runs o p l m v)) → Onward n t.clock.i (cond b (more y (runs o p l m v)) (stopped t))
      go t v y true near on rest = let h = rest refl in let k = near refl in (omega arith, omega arith)
      go t v y false near on rest = (omega arith, omega arith)

-- ---- a whole run
module _ {A : Type 0} (o : Ops A) (s : Sync A) (xs : List A) (places : ℕ) (given : Given s) where
  abbrev p : Params
  p = s.params

  abbrev l : List A
  l = line s.hist xs

  abbrev last : Track A
  last = (runs o p l places s.track).last

  running : TrackRunning p (length xs) s.track
  running = running_more p s.track.clock (lacks p s.track) (length xs) given

  onward : Onward (length xs) s.track.clock.i (runs o p l places s.track)
  onward = runs-onward o p l (length xs) (omega arith) places s.track running

  -- a run with more places than samples takes all
  pub ran-roomy : length xs < places → (ran o s xs places).taken ≡ length xs
  ran-roomy room = ran-all o s xs places (unfold ran in (let h = onward.1 in let i = given.first in omega arith))

  -- the samples from the strobe's place on get fewer by a run's strobes
  pub ran-nearer : let r = ran o s xs places in length xs - r.taken + 1 - r.state.track.clock.i + length r.values ≤ length xs + 1 - s.track.clock.i
  unfolding ran consumed track_back
  ran-nearer =
      let h = onward in
      let f = pending-first p (length xs) last (runs-running o p l (length xs) (omega arith) places s.track running) in
      omega arith
