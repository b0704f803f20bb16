-- More input behind what a timing run has: it takes the same strobes at the same clocks, and goes on from where
-- it stopped. Over any sample type. Assumes nothing.
use mathlib.Core.Path.{◌≡◌, refl, sym, ap, ◌∙◌}
use mathlib.Core.Bool.{Bool, true, false, cond}
use mathlib.Core.List.{List, [], ◌∷◌, ◌++◌}
use Prim.Native.Nat.{ℕ, zero, suc, ◌+◌, ◌-◌, ◌≤◌}
use native.Mathlib.Nat.{sub-zero, suc-sub-suc}
use native.Mathlib.Omega.{arith}
use borrow.Author.Tests.{lt-ltb, ltb-true}
use lib.ListN.{length, get_or, length-append, get_or-append}
use lib.Ieee.{Float}
use Rattle.ieee.proofs.Laws.Test.{both-tests}
use Rattle.numbers.specs.Narrowing.{narrowed}
use Rattle.timing.specs.declared.params.Params.{Params}
use Rattle.timing.specs.declared.clock.Clock.{Clock}
use Rattle.timing.specs.Sample.{Ops}
use Rattle.timing.specs.Clock.{mid_index, mid_part}
use Rattle.timing.specs.Loop.{Track, Strobes, lacks, there, value_at, with_mid, mid_taken, strobed, ready, stopped, more, runs}
use Rattle.timing.proofs.Laws.Loop.{held-not-lacking, value_here}
use Rattle.timing.proofs.Laws.Taken.{middle, mid_by, mid-not-lacking}
use Rattle.blocks.specs.Instants.{clocks}
use Rattle.blocks.specs.Runs.{Continues}

-- ---- a place of a run, with the middle taken: the strobes from here on, and the clocks
module _ {A : Type 0} (o : Ops A) (p : Params) (l : List A) (n : ℕ) (t : Track A) where
  abbrev pub turn : Strobes A
  turn = cond (ready p l t) (more (value_here o l t) (runs o p l n (strobed o p t (value_here o l t)))) (stopped t)

  abbrev pub turn_clocks : List Clock
  turn_clocks = cond (ready p l t) (t.clock ∷ clocks o p l n (strobed o p t (value_here o l t))) []

-- ---- among the samples l, and among l and ys behind them
module _ {A : Type 0} (o : Ops A) (p : Params) (l ys : List A) where
  there-longer : (i : ℕ) → there l i ≡ true → there (l ++ ys) i ≡ true
  there-longer i h = lt-ltb (i + 2) (length (l ++ ys)) (let k = ltb-true (i + 2) (length l) h in omega (arith, length-append l ys))

  value-longer : (i : ℕ) (mu : Float) → there l i ≡ true → value_at o (l ++ ys) i mu ≡ value_at o l i mu
  unfolding value_at
  value-longer i mu h =
      let k = ltb-true (i + 2) (length l) h in
      let same : (j : ℕ) → j ≤ i + 2 → get_or (l ++ ys) j o.zero ≡ get_or l j o.zero = λ j b. get_or-append l ys o.zero j (omega arith) in
      let a = same (i - 1) (omega arith) in
      let b = same i (omega arith) in
      let c = same (i + 1) (omega arith) in
      let d = same (i + 2) (omega arith) in
      λ j. o.interp (a j) (b j) (c j) (d j) (narrowed mu)

  -- ---- a middle that is taken among the samples so far is the one that is taken among more
  mid-longer : (s : Track A) → mid_taken o p (l ++ ys) (mid_taken o p l s) ≡ mid_taken o p (l ++ ys) s
  mid-longer s = go (lacks p s) (there l (mid_index s.clock)) refl refl
    where
      go : (a b : Bool) → lacks p s ≡ a → there l (mid_index s.clock) ≡ b → mid_taken o p (l ++ ys) (mid_taken o p l s) ≡ mid_taken o p (l ++ ys) s
      go true true h k =
          let i = mid_index s.clock in
          let m = l ++ ys in
          ap (mid_taken o p m) (mid_by o p l s h k)
          ∙ sym (mid-not-lacking o p m (with_mid s (middle o p l s)) (held-not-lacking p.ted s.started))
          ∙ ap (with_mid s) (sym (value-longer i (mid_part s.clock) k))
          ∙ sym (mid_by o p m s h (there-longer i k))
      go true false h k = ap (mid_taken o p (l ++ ys)) (mid_by o p l s h k)
      go false b h k = ap (mid_taken o p (l ++ ys)) (mid_by o p l s h k)

  -- ---- a strobe that is ready among the samples so far is the one that is ready among more
  strobe-first : (s : Track A) (m : ℕ) → let t = mid_taken o p l s in let y = value_here o l t in let u = mid_taken o p (l ++ ys) s in ready p l t ≡ true
      → (turn o p (l ++ ys) m u ≡ more y (runs o p (l ++ ys) m (strobed o p t y))) × (turn_clocks o p (l ++ ys) m u ≡ t.clock ∷ clocks o p (l ++ ys) m (strobed o p t y))
  strobe-first s m e =
      let t = mid_taken o p l s in
      let r = both-tests (lacks p t) (there l t.clock.i) e in
      let taken = sym (mid-longer s) ∙ sym (mid-not-lacking o p (l ++ ys) t r.0) in
      let near = there-longer t.clock.i r.1 in
      let value = value-longer t.clock.i t.clock.mu r.1 in
      (rw (taken, r.0, near, value), rw (taken, r.0, near, value))

  -- ---- a run
  pub runs-longer : (n m : ℕ) (s : Track A) → n ≤ m → Continues o p (l ++ ys) m (runs o p l n s) (clocks o p l n s) (runs o p (l ++ ys) m s) (clocks o p (l ++ ys) m s)
  unfolding runs clocks
  runs-longer zero m s h = (rw sub-zero, rw sub-zero)
  runs-longer (suc n) zero s h = absurd (omega arith)
  runs-longer (suc n) (suc m) s h =
      let t = mid_taken o p l s in
      go (ready p l t) refl (runs-longer n m (strobed o p t (value_here o l t)) (omega arith))
    where
      go : (b : Bool) → let t = mid_taken o p l s in let v = strobed o p t (value_here o l t) in let u = mid_taken o p (l ++ ys) s in ready p l t ≡ b
          → Continues o p (l ++ ys) m (runs o p l n v) (clocks o p l n v) (runs o p (l ++ ys) m v) (clocks o p (l ++ ys) m v)
          → Continues o p (l ++ ys) (suc m) (turn o p l n t) (turn_clocks o p l n t) (turn o p (l ++ ys) m u) (turn_clocks o p (l ++ ys) m u)
      go true e rest =
          let t = mid_taken o p l s in
          let f = strobe-first s m e in
          rw (e, suc-sub-suc) (f.0 ∙ ap (more (value_here o l t)) rest.0, f.1 ∙ ap (λ (cs : List Clock). t.clock ∷ cs) rest.1)
      go false e rest = rw (e, sub-zero) (ap (turn o p (l ++ ys) m) (sym (mid-longer s)), ap (turn_clocks o p (l ++ ys) m) (sym (mid-longer s)))
