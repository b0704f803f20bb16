-- The instants of strobes (B6): k places on, they are k samples later; each symbol has one, its value is the one
-- at it, and the first is where the state says. Assumes nothing.
use mathlib.Core.Path.{◌≡◌, refl, sym, ap, ◌∙◌}
use mathlib.Core.Logic.{◌⊎◌, inl, inr}
use mathlib.Core.Bool.{Bool, true, false, cond}
use mathlib.Core.List.{List, [], ◌∷◌, ◌++◌, map}
use Prim.Native.Nat.{ℕ, zero, suc, ◌+◌}
use lib.ListN.{length, length-map}
use lib.IntN.{ℤ, pos, neg_ℤ, ◌+ℤ◌, ◌-ℤ◌, +ℤ_assoc, +ℤ_comm}
use Rattle.timing.specs.declared.params.Params.{Params}
use Rattle.timing.specs.declared.clock.Clock.{Clock}
use Rattle.timing.specs.Sample.{Ops}
use Rattle.timing.specs.Loop.{Track, Strobes, value_at, mid_taken, strobed, ready, stopped, more, runs}
use Rattle.timing.specs.Run.{Sync, line, ran}
use Rattle.timing.proofs.Laws.Loop.{value_here}
use Rattle.timing.proofs.Laws.Taken.{mid-stays}
use Rattle.blocks.specs.Instants.{clocks, Instant, instant_of, later, instants}
use Rattle.blocks.specs.Runs.{clock_on}

-- ---- k places on
instant-on : (k : ℕ) (c : Clock) → instant_of (clock_on k c) ≡ later k (instant_of c)
instant-on k c =
    let e : pos (c.i + k) -ℤ pos 3 ≡ pos k +ℤ (pos c.i -ℤ pos 3) = ap (λ (x : ℤ). x -ℤ pos 3) (+ℤ_comm (pos c.i) (pos k)) ∙ +ℤ_assoc (pos k) (pos c.i) (neg_ℤ (pos 3)) in
    λ j. record { sample = e j; part = c.mu }

-- the instants of clocks, and of others k places on
pub instants-on : (k : ℕ) (cs ds : List Clock) → map instant_of (cs ++ map (clock_on k) ds) ≡ map instant_of cs ++ map (later k) (map instant_of ds)
instants-on k [] [] = refl
instants-on k [] (d ∷ ds) = λ j. instant-on k d j ∷ instants-on k [] ds j
instants-on k (c ∷ cs) ds = ap (λ (l : List Instant). instant_of c ∷ l) (instants-on k cs ds)

-- ---- what the clocks of a run are
module _ {A : Type 0} (o : Ops A) (p : Params) (l : List A) where
  -- each value is the one at its clock's place
  pub values-at : (n : ℕ) (s : Track A) → (runs o p l n s).values ≡ map (λ (c : Clock). value_at o l c.i c.mu) (clocks o p l n s)
  unfolding runs clocks
  values-at zero s = refl
  values-at (suc n) s = let t = mid_taken o p l s in go t (ready p l t) (values-at n (strobed o p t (value_here o l t)))
    where
      go : (t : Track A) (b : Bool) → let v = strobed o p t (value_here o l t) in (runs o p l n v).values ≡ map (λ (c : Clock). value_at o l c.i c.mu) (clocks o p l n v)
          → (cond {A = Strobes A} b (more (value_here o l t) (runs o p l n v)) (stopped t)).values ≡ map (λ (c : Clock). value_at o l c.i c.mu) (cond {A = List Clock} b (t.clock ∷ clocks o p l n v) [])
      go t true rest = ap (λ (vs : List A). value_here o l t ∷ vs) rest
      go t false rest = refl

  -- the first one is where the state before the run says, as its reading reports it
  pub first-at : (n : ℕ) (s : Track A) → (clocks o p l n s ≡ []) ⊎ ((cs : List Clock) × (clocks o p l n s ≡ s.clock ∷ cs))
  unfolding clocks
  first-at zero s = inl refl
  first-at (suc n) s = let t = mid_taken o p l s in go t (mid-stays o p l s) (ready p l t)
    where
      go : (t : Track A) → t.clock ≡ s.clock → (b : Bool) → let cs = cond b (t.clock ∷ clocks o p l n (strobed o p t (value_here o l t))) [] in (cs ≡ []) ⊎ ((ds : List Clock) × (cs ≡ s.clock ∷ ds))
      go t e true = let cs = clocks o p l n (strobed o p t (value_here o l t)) in inr (cs, ap (λ (c : Clock). c ∷ cs) e)
      go t e false = inl refl

-- each symbol has one
pub instants-count : {A : Type 0} (o : Ops A) (s : Sync A) (xs : List A) (places : ℕ) → length (instants o s xs places) ≡ length (ran o s xs places).values
unfolding ran
instants-count o s xs places =
    let l = line s.hist xs in
    let cs = clocks o s.params l places s.track in
    length-map cs instant_of ∙ sym (length-map cs (λ (c : Clock). value_at o l c.i c.mu)) ∙ ap length (sym (values-at o s.params l places s.track))
