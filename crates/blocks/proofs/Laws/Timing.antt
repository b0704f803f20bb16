-- B1: a timing run on xs, then one on what it did not consume followed by ys, is one run on xs followed by ys:
-- values, count, state and instants. Over any sample type, from any given state. Assumes nothing.
use mathlib.Core.Path.{◌≡◌, refl, sym, ap, ◌∙◌}
use mathlib.Core.Bool.{Bool, true, false, cond}
use mathlib.Core.List.{List, ◌∷◌, ◌++◌, map}
use Prim.Native.Nat.{ℕ, suc, ◌+◌, ◌-◌, ◌≤◌, ◌<◌}
use native.Mathlib.Omega.{arith}
use lib.ListN.{length, get_or, drop, length-append, length-drop, get_or-append}
use lib.Seq.{drop-cons, drop-append-le}
use Rattle.lists.proofs.Laws.Reading.{get_or-on}
use Rattle.timing.specs.declared.params.Params.{Params}
use Rattle.timing.specs.declared.clock.Clock.{Clock}
use Rattle.timing.specs.Sample.{Ops}
use Rattle.timing.specs.Clock.{mid_index}
use Rattle.timing.specs.Given.{Running}
use Rattle.timing.specs.Loop.{Track, Strobes, lacks, runs, pending, consumed, track_back}
use Rattle.timing.specs.Run.{Hist, Sync, Given, line, hist_at, Ran, ran, TrackRunning}
use Rattle.timing.proofs.Laws.Clock.{running-pending, running_more}
use Rattle.timing.proofs.Laws.Loop.{runs-running}
use Rattle.timing.proofs.Laws.Run.{ran-given}
use Rattle.blocks.specs.Instants.{clocks, instant_of, later, instants}
use Rattle.blocks.specs.Timing.{goes_on, together}
use Rattle.blocks.proofs.Laws.Longer.{runs-longer}
use Rattle.blocks.specs.Runs.{clock_on, track_on}
use Rattle.blocks.proofs.Laws.Shifted.{mid-on, runs_on}
use Rattle.blocks.proofs.Laws.Instants.{instants-on}

-- ---- the history and what is left stand where they stood: the samples from k on
line-next : {A : Type 0} (o : Ops A) (h : Hist A) (xs ys : List A) (k : ℕ) → k ≤ length xs → line (hist_at o (line h xs) k) (drop k xs ++ ys) ≡ drop k (line h (xs ++ ys))
unfolding hist_at
line-next {A} o h xs ys k in-xs =
    let l = line h xs in
    let m = line h (xs ++ ys) in
    let same : (j : ℕ) → j < length xs + 3 → get_or l j o.zero ≡ get_or m j o.zero = λ j b. sym (get_or-append l ys o.zero j (omega arith)) in
    let next : (i j : ℕ) → j ≡ suc i → i < length xs + 3 → drop i m ≡ get_or m i o.zero ∷ drop j m = λ i j e b. drop-cons m i o.zero (omega (arith, length-append xs ys)) ∙ ap (λ (x : ℕ). get_or m i o.zero ∷ drop x m) (sym e) in
    let three : k + 3 ≡ suc (suc (suc k)) = omega arith in
    let rest : drop (k + 3) m ≡ drop k xs ++ ys = ap (λ (x : ℕ). drop x m) three ∙ drop-append-le k xs ys in-xs in
    let a = same k (omega arith) in
    let b = same (k + 1) (omega arith) in
    let c = same (k + 2) (omega arith) in
    (λ j. a j ∷ b j ∷ c j ∷ sym rest j)
    ∙ sym (next k (k + 1) (omega arith) (omega arith)
    ∙ ap (λ (t : List A). get_or m k o.zero ∷ t) (next (k + 1) (k + 2) (omega arith) (omega arith) ∙ ap (λ (t : List A). get_or m (k + 1) o.zero ∷ t) (next (k + 2) (k + 3) (omega arith) (omega arith))))

-- ---- k places on
pending-on : {A : Type 0} (p : Params) (k n : ℕ) (t : Track A) → TrackRunning p n t → pending p (track_on k t) ≡ pending p t + k
unfolding pending
pending-on {A} p k n t g = go (lacks p t) g
  where
    go : (b : Bool) → Running p t.clock b n → cond b (mid_index (clock_on k t.clock)) (t.clock.i + k) ≡ cond b (mid_index t.clock) t.clock.i + k
    go true g = mid-on k g tt
    go false g = refl

pub pending-first : {A : Type 0} (p : Params) (n : ℕ) (t : Track A) → TrackRunning p n t → (1 ≤ pending p t) × (pending p t ≤ t.clock.i)
unfolding pending
pending-first p n t g = running-pending p t.clock (lacks p t) n g

-- with k samples consumed before, and then the rest
consumed-on : {A : Type 0} (p : Params) (k n m : ℕ) (t : Track A) → TrackRunning p n t → m ≡ k + n → consumed p (track_on k t) m ≡ k + consumed p t n
unfolding consumed
consumed-on p k n m t g e =
    let a = pending-on p k n t g in
    let b = pending-first p n t g in
    omega arith

back_on : {A : Type 0} (k j : ℕ) (t : Track A) → track_back (track_on k t) (k + j) ≡ track_back t j
unfolding track_back
back_on k j t =
    let e : t.clock.i + k - (k + j) ≡ t.clock.i - j = omega arith in
    λ i. record { clock = record { i = e i; mu = t.clock.mu; omega = t.clock.omega; integ = t.clock.integ }; y_prev = t.y_prev; d_prev = t.d_prev; mid = t.mid; mid_ready = t.mid_ready; started = t.started }

on-back : {A : Type 0} (k : ℕ) (t : Track A) → k ≤ t.clock.i → track_on k (track_back t k) ≡ t
unfolding track_back
on-back k t h =
    let e : t.clock.i - k + k ≡ t.clock.i = omega arith in
    λ i. record { clock = record { i = e i; mu = t.clock.mu; omega = t.clock.omega; integ = t.clock.integ }; y_prev = t.y_prev; d_prev = t.d_prev; mid = t.mid; mid_ready = t.mid_ready; started = t.started }

hist-on : {A : Type 0} (o : Ops A) (l : List A) (k j : ℕ) → hist_at o l (k + j) ≡ hist_at o (drop k l) j
unfolding hist_at
hist-on o l k j =
    let a = get_or-on l k o.zero (k + j) j refl in
    let b = get_or-on l k o.zero (k + j + 1) (j + 1) (omega arith) in
    let c = get_or-on l k o.zero (k + j + 2) (j + 2) (omega arith) in
    λ i. record { a = a i; b = b i; c = c i }

-- ---- two runs: the first on xs with n places, where there are m in all
module _ {A : Type 0} (o : Ops A) (s : Sync A) (xs ys : List A) (n m : ℕ) (fewer : n ≤ m) (given : Given s) where
  abbrev p : Params
  p = s.params

  abbrev whole : List A
  whole = line s.hist (xs ++ ys)

  -- what the first does, and what it leaves: the count consumed, the samples, the line, the track, the places
  abbrev first : Strobes A
  first = runs o p (line s.hist xs) n s.track

  abbrev k : ℕ
  k = consumed p first.last (length xs)

  abbrev rest : List A
  rest = drop k xs ++ ys

  abbrev next : List A
  next = line (hist_at o (line s.hist xs) k) rest

  abbrev track : Track A
  track = track_back first.last k

  abbrev places : ℕ
  places = m - length first.values

  abbrev second : Strobes A
  second = runs o p next places track

  -- ---- what holds between them
  left-running : TrackRunning p (length xs) first.last
  left-running = runs-running o p (line s.hist xs) (length xs) (omega arith) n s.track (running_more p s.track.clock (lacks p s.track) (length xs) given)

  k-in : k ≤ length xs
  unfolding consumed
  k-in = omega arith

  k-back : k ≤ first.last.clock.i
  unfolding consumed
  k-back = let h = pending-first p (length xs) first.last left-running in omega arith

  next-is : next ≡ drop k whole
  next-is = line-next o s.hist xs ys k k-in

  next-running : TrackRunning p (length rest) track
  unfolding ran
  next-running = running_more p track.clock (lacks p track) (length rest) (ran-given o s xs n given)

  -- ---- one run does what both do, the second k places on
  abbrev both : Strobes A
  both = record { values = first.values ++ second.values; last = track_on k second.last }

  runs-both : (runs o p whole m s.track ≡ both) × (clocks o p whole m s.track ≡ clocks o p (line s.hist xs) n s.track ++ map (clock_on k) (clocks o p next places track))
  runs-both =
      let long : length (drop k whole) ≡ length rest + 3 = (let h = ap length next-is in omega arith) in
      let e = runs-longer o p (line s.hist xs) ys n m s.track fewer in
      let f = runs_on o p whole k (length rest) long places track next-running in
      let back = on-back k first.last k-back in
      let runs-second : runs o p whole places first.last ≡ record { values = second.values; last = track_on k second.last }
      = ap (runs o p whole places) (sym back) ∙ f.0 ∙ ap (λ (l : List A). let r = runs o p l places track in record { values = r.values; last = track_on k r.last }) (sym next-is) in
      let clocks-second = ap (clocks o p whole places) (sym back) ∙ f.1 ∙ ap (λ (l : List A). map (clock_on k) (clocks o p l places track)) (sym next-is) in (
        e.0 ∙ ap (λ (r : Strobes A). record { values = first.values ++ r.values; last = r.last }) runs-second,
        e.1 ∙ ap (λ (cs : List Clock). clocks o p (line s.hist xs) n s.track ++ cs) clocks-second,
      )

  -- ---- so the two runs are one
  -- what a run on the whole makes of its strobes
  abbrev ended : Strobes A → Ran A
  ended r = let c = consumed p r.last (length (xs ++ ys)) in record { state = record { params = p; hist = hist_at o whole c; track = track_back r.last c }; taken = c; values = r.values }

  pub ran-together : let q = ran o s xs n in together q (goes_on o q xs ys m) ≡ ran o s (xs ++ ys) m
  unfolding ran
  ran-together =
      let j = consumed p second.last (length rest) in
      let lengths : length (xs ++ ys) ≡ k + length rest = (let h = k-in in omega (arith, length-append xs ys, length-append (drop k xs) ys, length-drop k xs)) in
      let taken = consumed-on p k (length rest) (length (xs ++ ys)) second.last (runs-running o p next (length rest) (omega arith) places track next-running) lengths in
      let hist = ap (hist_at o whole) taken ∙ hist-on o whole k j ∙ ap (λ (l : List A). hist_at o l j) (sym next-is) in
      let tracks = ap (track_back (track_on k second.last)) taken ∙ back_on k j second.last in
      ◌∙◌ {b = ended both} (λ i. record { state = record { params = p; hist = sym hist i; track = sym tracks i }; taken = sym taken i; values = both.values }) (ap ended (sym runs-both.0))

  pub instants-together : let q = ran o s xs n in instants o s (xs ++ ys) m ≡ instants o s xs n ++ map (later q.taken) (instants o q.state (drop q.taken xs ++ ys) (m - length q.values))
  unfolding ran
  instants-together = ap (map instant_of) runs-both.1 ∙ instants-on k (clocks o p (line s.hist xs) n s.track) (clocks o p next places track)
