-- The strobes of a timing run lie 1,459/1,024 of a sample or more apart, so k of them need more than
-- (k - 1) × 1,459/1,024 samples. Over any sample type. Assumes nothing.
use mathlib.Core.Path.{◌≡◌, refl, sym, subst}
use mathlib.Core.Bool.{Bool, true, false, cond}
use mathlib.Core.List.{List}
use Prim.Native.Nat.{ℕ, zero, suc, ◌+◌, ◌-◌, ◌*◌, ◌≤◌}
use native.Mathlib.Nat.{zero-lt-suc}
use native.Mathlib.Omega.{arith}
use lib.ListN.{length}
use lib.Ieee.{binary64}
use Rattle.ieee.proofs.Laws.Round.{round-zero}
use Rattle.timing.specs.declared.params.Params.{Params}
use Rattle.timing.specs.declared.clock.Clock.{Clock}
use Rattle.timing.specs.Sample.{Ops}
use Rattle.timing.specs.Given.{Running}
use Rattle.timing.specs.Loop.{Track, Strobes, lacks, mid_taken, strobed, ready, stopped, more, runs}
use Rattle.timing.specs.Run.{Sync, Given, line, ran, TrackRunning}
use Rattle.timing.proofs.Laws.Clock.{settled-finite, running_more}
use Rattle.timing.proofs.Laws.Loop.{value_here, ready-window, mid_taken-running, strobed-running}
use Rattle.timing.proofs.Laws.Taken.{mid-stays}
use Rattle.density.specs.Strobes.{apart, Sparse}
use Rattle.density.proofs.Laws.Strobe.{Past, advanced-past}

-- a run's clock stands at sample 1 or past it
first : (p : Params) (c : Clock) (b : Bool) (n : ℕ) → Running p c b n → Past 1024 c
first p c b n g = let i = g.first in record { t = 0; small = omega arith; fraction = rw (round-zero binary64 false 1024 (zero-lt-suc 1023)) g.steady.mu-low; reached = omega arith }

-- ---- with n samples of input after the history
module _ {A : Type 0} (o : Ops A) (p : Params) (l : List A) (n : ℕ) (long : length l ≡ n + 3) where
  strobed-past : {a : ℕ} (s : Track A) (y : A) → TrackRunning p n s → Past a s.clock → Past (a + apart) (strobed o p s y).clock
  unfolding strobed
  strobed-past s y g q = advanced-past p s.clock _ g.params g.steady (settled-finite s.started _) q

  -- from a / 1024 on, and with the last strobe at n + 1023 / 1024 at most
  runs-sparse : (m : ℕ) {a : ℕ} (s : Track A) → TrackRunning p n s → Past a s.clock → apart * length (runs o p l m s).values ≤ 1024 * n + 1023 + apart - a
  unfolding runs
  runs-sparse zero s g q = omega arith
  runs-sparse (suc m) {a} s g q =
      let t = mid_taken o p l s in
      let f = mid_taken-running o p l n long s g in
      let y = value_here o l t in
      let u = strobed o p t y in
      let k = subst (Past a) (sym (mid-stays o p l s)) q in
      go t y (ready p l t) (runs o p l m u) k (λ e. (ready-window p l n long t e f).1) (λ e. runs-sparse m u (strobed-running o p l n long t y e f) (strobed-past t y f k))
    where
      go : (t : Track A) (y : A) (b : Bool) (r : Strobes A) → Past a t.clock → (b ≡ true → t.clock.i ≤ n) → (b ≡ true → apart * length r.values ≤ 1024 * n + 1023 + apart - (a + apart)) → apart * length (cond b (more y r) (stopped t)).values ≤ 1024 * n + 1023 + apart - a
      go t y true r q near after = let h = after refl in let k = near refl in let i = q.small in let j = q.reached in omega arith
      go t y false r q near after = omega arith

-- ---- a whole run
pub ran-sparse : {A : Type 0} (o : Ops A) (s : Sync A) (xs : List A) (places : ℕ) → Given s → Sparse (length xs) (length (ran o s xs places).values)
unfolding ran
ran-sparse o s xs places g =
    let p = s.params in
    let c = s.track.clock in
    let f = running_more p c (lacks p s.track) (length xs) g in
    let h = runs-sparse o p (line s.hist xs) (length xs) (omega arith) places s.track f (first p c (lacks p s.track) (length xs) f) in
    omega arith
