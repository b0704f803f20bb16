-- A timing run from sample k of a list on, its clock k places back: it takes the same strobes, each k places back.
-- So it does not show what is consumed between two runs. Over any sample type. Assumes nothing.
use mathlib.Core.Path.{◌≡◌, refl, sym, ap, ap₂, ◌∙◌}
use mathlib.Core.Bool.{Bool, true, false, not, ◌&&◌, cond}
use mathlib.Core.List.{List, ◌∷◌, map}
use Prim.Native.Nat.{ℕ, zero, suc, ◌+◌, ◌-◌, ◌≤◌}
use native.Mathlib.Omega.{arith}
use lib.Dec.{T, ltb→lt, lt→ltb}
use lib.ListN.{length, drop, length-drop}
use lib.Ieee.{Float}
use lib.Ieee.Scale.{finite}
use Rattle.ieee.proofs.Laws.Test.{yes, same_test}
use Rattle.lists.proofs.Laws.Reading.{get_or-on}
use Rattle.numbers.specs.Narrowing.{narrowed}
use Rattle.timing.specs.declared.params.Ted.{Ted}
use Rattle.timing.specs.declared.params.Ted.TheVariants.{Gardner, MuellerMuller}
use Rattle.timing.specs.declared.params.Params.{Params}
use Rattle.timing.specs.declared.clock.Clock.{Clock}
use Rattle.timing.specs.Sample.{Ops}
use Rattle.timing.specs.Clock.{midway, mid_index, mid_part, new_integ, new_omega, moved, advanced, settled, mid_left}
use Rattle.timing.specs.Given.{Running}
use Rattle.timing.specs.Loop.{Track, lacks, there, value_at, with_mid, mid_taken, decision, error_of, strobed, ready, more, runs}
use Rattle.timing.specs.Run.{TrackRunning}
use Rattle.timing.proofs.Laws.Strobe.{advanced-i}
use Rattle.timing.proofs.Laws.Clock.{settled-finite, kept, running-mid}
use Rattle.timing.proofs.Laws.Loop.{value_here, mid_taken-running, strobed-running}
use Rattle.timing.proofs.Laws.Taken.{mid_by}
use Rattle.blocks.specs.Instants.{clocks}
use Rattle.blocks.specs.Runs.{clock_on, track_on, strobes_on}
use Rattle.blocks.proofs.Laws.Longer.{turn, turn_clocks}

-- ---- the clock: its place moves, and nothing else looks at it
pub mid-on : (k : ℕ) {p : Params} {c : Clock} {b : Bool} {n : ℕ} → Running p c b n → T b → mid_index (clock_on k c) ≡ mid_index c + k
unfolding midway
mid-on k {p} {c} {b} {n} g t = let h = (running-mid p c b n g t).room in omega arith

advanced-on : (k : ℕ) (p : Params) (c : Clock) (b : Bool) (n : ℕ) → Running p c b n → (e : Float) → T (finite e) → advanced p (clock_on k c) e ≡ clock_on k (advanced p c e)
unfolding advanced moved new_omega new_integ
advanced-on k p c b n g e E =
    let near = advanced-i p c e g.params g.steady E in
    let far = advanced-i p (clock_on k c) e g.params (kept (c.i + k) g.steady) E in
    let place : (advanced p (clock_on k c) e).i ≡ (advanced p c e).i + k = omega arith in
    λ j. record { i = place j; mu = (advanced p c e).mu; omega = (advanced p c e).omega; integ = (advanced p c e).integ }

error-on : {A : Type 0} (o : Ops A) (d : Ted) (k : ℕ) (s : Track A) (y v : A) → error_of o d (track_on k s) y v ≡ error_of o d s y v
unfolding error_of
error-on o Gardner k s y v = refl
error-on o MuellerMuller k s y v = refl

-- ---- among the samples l, and among those from k on, of which there are n + 3
module _ {A : Type 0} (o : Ops A) (p : Params) (l : List A) (k n : ℕ) (long : length (drop k l) ≡ n + 3) where
  there-on : (i : ℕ) → there l (i + k) ≡ there (drop k l) i
  there-on i =
      same_test (there l (i + k)) (there (drop k l) i)
      (λ t. lt→ltb (i + 2) (length (drop k l)) (let h = ltb→lt (i + k + 2) (length l) t in omega (arith, length-drop k l)))
      (λ t. lt→ltb (i + k + 2) (length l) (let h = ltb→lt (i + 2) (length (drop k l)) t in omega (arith, length-drop k l)))

  value_on : (i : ℕ) (mu : Float) → 1 ≤ i → value_at o l (i + k) mu ≡ value_at o (drop k l) i mu
  unfolding value_at
  value_on i mu h =
      let a = get_or-on l k o.zero (i + k - 1) (i - 1) (omega arith) in
      let b = get_or-on l k o.zero (i + k) i (omega arith) in
      let c = get_or-on l k o.zero (i + k + 1) (i + 1) (omega arith) in
      let d = get_or-on l k o.zero (i + k + 2) (i + 2) (omega arith) in
      λ j. o.interp (a j) (b j) (c j) (d j) (narrowed mu)

  -- ---- one place
  mid-of : (s : Track A) (v : A) (b : Bool) → cond b (with_mid (track_on k s) v) (track_on k s) ≡ track_on k (cond b (with_mid s v) s)
  mid-of s v true = refl
  mid-of s v false = refl

  mid_taken-on : (s : Track A) → TrackRunning p n s → mid_taken o p l (track_on k s) ≡ track_on k (mid_taken o p (drop k l) s)
  mid_taken-on s g = go (lacks p s) refl
    where
      go : (a : Bool) → lacks p s ≡ a → mid_taken o p l (track_on k s) ≡ track_on k (mid_taken o p (drop k l) s)
      go true h =
          let c = s.clock in
          let i = mid_index c in
          let e = mid-on k g (yes h) in
          let near = ap (there l) e ∙ there-on i in
          let same-part : mid_part (clock_on k c) ≡ mid_part c = unfold midway in refl in
          let value = ap₂ (value_at o l) e same-part ∙ value_on i (mid_part c) (g.mid-first (yes h)) in
          mid_by o p l (track_on k s) h near
          ∙ ap (λ (v : A). cond (there (drop k l) i) (with_mid (track_on k s) v) (track_on k s)) value
          ∙ mid-of s (value_at o (drop k l) i (mid_part c)) (there (drop k l) i)
          ∙ ap (track_on k) (sym (mid_by o p (drop k l) s h refl))
      go false h = mid_by o p l (track_on k s) h refl ∙ ap (track_on k) (sym (mid_by o p (drop k l) s h refl))

  strobed-on : (s : Track A) (y : A) → TrackRunning p n s → strobed o p (track_on k s) y ≡ track_on k (strobed o p s y)
  unfolding strobed
  strobed-on s y g =
      let d = decision o p.ted s.d_prev y in
      let e = settled s.started (error_of o p.ted s y d) in
      let clock = ap (λ (x : Float). advanced p (clock_on k s.clock) (settled s.started x)) (error-on o p.ted k s y d) ∙ advanced-on k p s.clock (lacks p s) n g e (settled-finite s.started _) in
      λ j. record { clock = clock j; y_prev = y; d_prev = d; mid = s.mid; mid_ready = mid_left p.ted s.mid_ready; started = true }

  ready_on : (t : Track A) → ready p l (track_on k t) ≡ ready p (drop k l) t
  ready_on t = ap (λ (b : Bool). not (lacks p t) && b) (there-on t.clock.i)

  -- ---- a run
  pub runs_on : (m : ℕ) (s : Track A) → TrackRunning p n s → (runs o p l m (track_on k s) ≡ strobes_on k (runs o p (drop k l) m s)) × (clocks o p l m (track_on k s) ≡ map (clock_on k) (clocks o p (drop k l) m s))
  unfolding runs clocks
  runs_on zero s g = (refl, refl)
  runs_on (suc m) s g =
      let t = mid_taken o p (drop k l) s in
      let f = mid_taken-running o p (drop k l) n long s g in
      let taken = mid_taken-on s g in
      let r = turn_on t f (ready p (drop k l) t) refl (λ e. runs_on m (strobed o p t (value_here o (drop k l) t)) (strobed-running o p (drop k l) n long t (value_here o (drop k l) t) e f)) in
      (ap (turn o p l m) taken ∙ r.0, ap (turn_clocks o p l m) taken ∙ r.1)
    where
      turn_on : (t : Track A) → TrackRunning p n t → (b : Bool) → ready p (drop k l) t ≡ b → let v = strobed o p t (value_here o (drop k l) t) in
          (b ≡ true → (runs o p l m (track_on k v) ≡ strobes_on k (runs o p (drop k l) m v)) × (clocks o p l m (track_on k v) ≡ map (clock_on k) (clocks o p (drop k l) m v)))
          → (turn o p l m (track_on k t) ≡ strobes_on k (turn o p (drop k l) m t)) × (turn_clocks o p l m (track_on k t) ≡ map (clock_on k) (turn_clocks o p (drop k l) m t))
      turn_on t f true e rest =
          let y = value_here o (drop k l) t in
          let q = rest refl in
          let value = value_on t.clock.i t.clock.mu f.first in
          let strobe = ap (strobed o p (track_on k t)) value ∙ strobed-on t y f in
          rw (ready_on t, e) (ap₂ more value (ap (runs o p l m) strobe ∙ q.0), ap (λ (cs : List Clock). clock_on k t.clock ∷ cs) (ap (clocks o p l m) strobe ∙ q.1))
      turn_on t f false e rest = rw (ready_on t, e) (refl, refl)
