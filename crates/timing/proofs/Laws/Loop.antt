-- The timing loop over any sample type: its turns, what holds of its track while it runs, and its counts.
-- Assumes nothing.
use Rattle.std.proofs.Common.{◌≡◌, ℕ, zero, suc, ◌+◌, ◌-◌, ◌^◌, ◌<◌, ◌≤◌, Bool, true, false, cond, not, ◌&&◌, T, ltb, leb, List, length, sym, refl, ap, subst, arith, le→leb, ltb→lt, lt→ltb, leb→le, nltb→le}
use lib.Ieee.Fits.{and_r}
use Rattle.ieee.proofs.Laws.Test.{yes, same_test}
use Rattle.timing.specs.declared.params.Ted.{Ted}
use Rattle.timing.specs.declared.params.Ted.TheVariants.{Gardner, MuellerMuller}
use Rattle.timing.specs.declared.params.Params.{Params}
use Rattle.timing.specs.Sample.{Ops}
use Rattle.timing.specs.Clock.{mid_index, mid_part, lacking}
use Rattle.timing.specs.Given.{Running, GivenStrobe}
use Rattle.timing.specs.Loop.{Track, Strobes, lacks, there, value_at, with_mid, mid_taken, strobed, ready, stopped, more, runs, pending}
use Rattle.timing.specs.Run.{TrackRunning}
use Rattle.timing.proofs.Laws.Clock.{settled-finite, running-advanced, running-ready}

-- a middle that is held is not lacking
pub held-not-lacking : (d : Ted) (started : Bool) → lacking d started true ≡ false
unfolding lacking
held-not-lacking Gardner true = refl
held-not-lacking Gardner false = refl
held-not-lacking MuellerMuller started = refl

-- the value at a track's place
abbrev pub value_here : {A : Type 0} → Ops A → List A → Track A → A
value_here o l s = value_at o l s.clock.i s.clock.mu

-- in n + 3 samples, the value at i is available just if i is at most n
pub there-leb : {A : Type 0} (l : List A) (n : ℕ) → length l ≡ n + 3 → (i : ℕ) → there l i ≡ leb i n
there-leb l n long i =
    same_test (ltb (i + 2) (length l)) (leb i n)
    (λ t. le→leb i n (let h = ltb→lt (i + 2) (length l) t in omega arith))
    (λ t. lt→ltb (i + 2) (length l) (let h = leb→le i n t in omega arith))

-- ---- a strobe that is ready, and what it asks
module _ {A : Type 0} (p : Params) (l : List A) (n : ℕ) (long : length l ≡ n + 3) (s : Track A) where
  pub ready-leb : ready p l s ≡ (not (lacks p s) && leb s.clock.i n)
  ready-leb = ap (λ (b : Bool). not (lacks p s) && b) (there-leb l n long s.clock.i)

  ready-near : ready p l s ≡ true → s.clock.i ≤ n
  ready-near r = let h = ltb→lt (s.clock.i + 2) (length l) (and_r (not (lacks p s)) (there l s.clock.i) (yes r)) in omega arith

  pub ready-window : ready p l s ≡ true → TrackRunning p n s → (1 ≤ s.clock.i) × (s.clock.i ≤ n)
  ready-window r g = (g.first, ready-near r)

  pub ready-strobe : ready p l s ≡ true → TrackRunning p n s → n < 2 ^ 63 → GivenStrobe p s.clock
  ready-strobe r g h = record { mid = lacks p s; ahead = n; running = g; there = ready-near r; small = h }

module _ {A : Type 0} (o : Ops A) (p : Params) (l : List A) where
  -- ---- the turns of a run, where k of q places are done
  module _ (q k : ℕ) (s : Track A) where
    pub runs-turn : k < q → let t = mid_taken o p l s in ready p l t ≡ true → runs o p l (q - k) s ≡ more (value_here o l t) (runs o p l (q - (k + 1)) (strobed o p t (value_here o l t)))
    unfolding runs
    runs-turn left r =
        let e : q - k ≡ suc (q - (k + 1)) = omega arith in
        rw (e, r)

    pub runs-stop : k < q → let t = mid_taken o p l s in ready p l t ≡ false → runs o p l (q - k) s ≡ stopped t
    unfolding runs
    runs-stop left r =
        let e : q - k ≡ suc (q - (k + 1)) = omega arith in
        rw (e, r)

    pub runs-full : q ≤ k → runs o p l (q - k) s ≡ stopped s
    unfolding runs
    runs-full none =
        let e : q - k ≡ 0 = omega arith in
        rw e

  -- ---- no more values than places
  pub runs-count : (k : ℕ) (s : Track A) → length (runs o p l k s).values ≤ k
  unfolding runs
  runs-count zero s = omega arith
  runs-count (suc k) s =
      let t = mid_taken o p l s in
      let v = strobed o p t (value_here o l t) in
      go (ready p l t) t (value_here o l t) (runs o p l k v) (runs-count k v)
    where
      go : (b : Bool) (t : Track A) (y : A) (r : Strobes A) → length r.values ≤ k → length (cond {A = Strobes A} b (more y r) (stopped t)).values ≤ suc k
      go true t y r h = omega arith
      go false t y r h = omega arith

  -- ---- with n samples of input after the history
  module _ (n : ℕ) (long : length l ≡ n + 3) where
    -- what holds is kept up
    pub mid_taken-running : (s : Track A) → TrackRunning p n s → TrackRunning p n (mid_taken o p l s)
    unfolding mid_taken
    mid_taken-running s g = go (lacks p s && there l (mid_index s.clock)) (value_at o l (mid_index s.clock) (mid_part s.clock))
      where
        go : (b : Bool) (m : A) → TrackRunning p n (cond b (with_mid s m) s)
        go true m = subst (λ (b : Bool). Running p s.clock b n) (sym (held-not-lacking p.ted s.started)) (running-ready p s.clock (lacks p s) n g)
        go false m = g

    pub strobed-running : (s : Track A) (y : A) → ready p l s ≡ true → TrackRunning p n s → TrackRunning p n (strobed o p s y)
    unfolding strobed
    strobed-running s y r g = running-advanced p s.clock (lacks p s) n g _ (settled-finite s.started _) (ready-near p l n long s r) _

    pub runs-running : (k : ℕ) (s : Track A) → TrackRunning p n s → TrackRunning p n (runs o p l k s).last
    unfolding runs
    runs-running zero s g = g
    runs-running (suc k) s g =
        let t = mid_taken o p l s in
        let v = strobed o p t (value_here o l t) in
        let f = mid_taken-running s g in
        go (ready p l t) t (value_here o l t) (runs o p l k v) f (λ r. runs-running k v (strobed-running t (value_here o l t) r f))
      where
        go : (b : Bool) (t : Track A) (y : A) (r : Strobes A) → TrackRunning p n t → (b ≡ true → TrackRunning p n r.last) → TrackRunning p n (cond {A = Strobes A} b (more y r) (stopped t)).last
        go true t y r f h = h refl
        go false t y r f h = f

    -- a middle that is still lacking is not available
    mid-far : (s : Track A) → let t = mid_taken o p l s in T (lacks p t) → n < mid_index t.clock
    unfolding mid_taken
    mid-far s = go (lacks p s) (there l (mid_index s.clock)) (value_at o l (mid_index s.clock) (mid_part s.clock)) (λ h. h) (nltb→le (mid_index s.clock + 2) (length l))
      where
        go : (a b : Bool) (m : A) → (T (lacks p s) → T a) → (T (not b) → length l ≤ mid_index s.clock + 2) → let t = cond (a && b) (with_mid s m) s in T (lacks p t) → n < mid_index t.clock
        go true true m e f h = absurd (subst T (held-not-lacking p.ted s.started) h)
        go true false m e f h = let k = f tt in omega arith
        go false b m e f h = absurd (e h)

    -- nor is what a stopped run needs next
    stop-far : (s : Track A) → T (not (ready p l s)) → (T (lacks p s) → n < mid_index s.clock) → n < pending p s
    unfolding pending
    stop-far s = go (lacks p s) (there l s.clock.i) (nltb→le (s.clock.i + 2) (length l))
      where
        go : (a b : Bool) → (T (not b) → length l ≤ s.clock.i + 2) → T (not (not a && b)) → (T a → n < mid_index s.clock) → n < cond a (mid_index s.clock) s.clock.i
        go true b f h m = m tt
        go false true f h m = absurd h
        go false false f h m = let k = f tt in omega arith

    -- a run that leaves an output place empty needs next an index that is not available
    pub runs-stuck : (k : ℕ) (s : Track A) → length (runs o p l k s).values < k → n < pending p (runs o p l k s).last
    unfolding runs
    runs-stuck zero s h = absurd (omega arith)
    runs-stuck (suc k) s h =
        let t = mid_taken o p l s in
        let v = strobed o p t (value_here o l t) in
        go (ready p l t) t (value_here o l t) (runs o p l k v) (λ b. stop-far t b (mid-far s)) (runs-stuck k v) h
      where
        go : (b : Bool) (t : Track A) (y : A) (r : Strobes A) → (T (not b) → n < pending p t) → (length r.values < k → n < pending p r.last) → let u = cond {A = Strobes A} b (more y r) (stopped t) in length u.values < suc k → n < pending p u.last
        go true t y r f g h = g (omega arith)
        go false t y r f g h = f tt
