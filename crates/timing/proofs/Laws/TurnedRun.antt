-- The complex timing loop on a turned recording, from one strobe to a whole run: the clock stays alike,
-- and each sample is turned. Assumes nothing.
use Rattle.std.proofs.Common.{◌≡◌, ℕ, zero, suc, ◌+◌, ◌-◌, Bool, not, ◌&&◌, ltb, List, get_or, sym, refl, ap, ap₂}
use lib.Ieee.{Float}
use Rattle.ieee.specs.Alike.{Alike}
use Rattle.ieee.specs.Notation.{zero₀}
use Rattle.ieee.proofs.Laws.Test.{cond-related}
use Rattle.ieee.proofs.Laws.Like.{like-refl}
use Rattle.values.specs.declared.sample.C32.{C32}
use Rattle.lists.specs.Each.{none, more}
use Rattle.values.specs.Turn.{Turned, AllTurned}
use Rattle.lists.proofs.Laws.Each.{each-length, each-get_or}
use Rattle.numbers.proofs.Laws.Narrowing.{like-narrow}
use Rattle.timing.specs.declared.params.Ted.{Ted}
use Rattle.timing.specs.declared.params.Ted.TheVariants.{Gardner, MuellerMuller}
use Rattle.timing.specs.declared.params.Params.{Params}
use Rattle.timing.specs.Sample.{complex}
use Rattle.timing.specs.Clock.{mid_left}
use Rattle.timing.specs.Loop.{Track, lacks, there, value_at, mid_taken, decision, error_of, strobed, Strobes, ready, runs, pending, consumed, track_back}
use Rattle.timing.specs.Run.{Hist, Sync, fresh, line, hist_at, Ran, ran}
use Rattle.timing.proofs.Laws.Alike.{AlikeClock, same_mid, alike-mid, alike-advanced, alike-settled}
use Rattle.timing.proofs.Laws.Turning.{turned_zero, turned-interp, turned-decide, turned-gardner, turned-mm}

-- t is s, on the recording turned k times
pub record Tied (k : ℕ) (s t : Track C32) : Type 0 where
  pub clock : AlikeClock t.clock s.clock
  pub y_prev : Turned k s.y_prev t.y_prev
  pub d_prev : Turned k s.d_prev t.d_prev
  pub mid : Turned k s.mid t.mid
  pub mid_ready : t.mid_ready ≡ s.mid_ready
  pub started : t.started ≡ s.started

same-lacks : (p : Params) {k : ℕ} {s t : Track C32} → Tied k s t → lacks p t ≡ lacks p s
same-lacks p h = rw (h.started, h.mid_ready)

-- ---- a strobe
turned-decision : (k : ℕ) (ted : Ted) (d y : C32) {d' y' : C32} → Turned k d d' → Turned k y y' → Turned k (decision complex ted d y) (decision complex ted d' y')
unfolding decision
turned-decision k Gardner d y hd hy = hd
turned-decision k MuellerMuller d y hd hy = turned-decide k y hy

alike-error : (k : ℕ) (ted : Ted) {s t : Track C32} (y d : C32) {y' d' : C32} → Tied k s t → Turned k y y' → Turned k d d' → Alike (error_of complex ted t y' d') (error_of complex ted s y d)
unfolding error_of
alike-error k Gardner {s} y d h hy hd = turned-gardner k s.y_prev y s.mid h.y_prev hy h.mid
alike-error k MuellerMuller {s} y d h hy hd = turned-mm k s.d_prev y d s.y_prev h.d_prev hy hd h.y_prev

tied-strobed : (k : ℕ) (p : Params) {s t : Track C32} (y : C32) {y' : C32} → Tied k s t → Turned k y y' → Tied k (strobed complex p s y) (strobed complex p t y')
unfolding strobed
tied-strobed k p {s} y h hy =
    let hd = turned-decision k p.ted s.d_prev y h.d_prev hy in
    record {
      clock = alike-advanced h.clock p (alike-settled h.started (alike-error k p.ted y _ h hy hd));
      y_prev = hy;
      d_prev = hd;
      mid = h.mid;
      mid_ready = ap (mid_left p.ted) h.mid_ready;
      started = refl;
    }

-- ---- the strobes of a list and of the list turned
pub record TiedStrobes (k : ℕ) (q r : Strobes C32) : Type 0 where
  pub values : AllTurned k q.values r.values
  pub last : Tied k q.last r.last

turned-at : (k : ℕ) {l m : List C32} → AllTurned k l m → (i : ℕ) → Turned k (get_or l i complex.zero) (get_or m i complex.zero)
turned-at k r i = each-get_or i r (turned_zero k)

module _ (k : ℕ) (p : Params) {l m : List C32} (r : AllTurned k l m) where
  turned-value : {i j : ℕ} {x y : Float} → j ≡ i → Alike y x → Turned k (value_at complex l i x) (value_at complex m j y)
  unfolding value_at
  turned-value {i} e q = rw e (turned-interp k _ _ _ _ (turned-at k r (i - 1)) (turned-at k r i) (turned-at k r (i + 1)) (turned-at k r (i + 2)) (like-narrow q))

  same-there : {i j : ℕ} → j ≡ i → there m j ≡ there l i
  same-there e = ap₂ (λ (n a : ℕ). ltb (n + 2) a) e (sym (each-length r))

  tied-mid : {s t : Track C32} → Tied k s t → Tied k (mid_taken complex p l s) (mid_taken complex p m t)
  unfolding mid_taken
  tied-mid h =
      let e = same_mid h.clock in
      cond-related (Tied k) (sym (ap₂ (λ (a b : Bool). a && b) (same-lacks p h) (same-there e)))
      (record { clock = h.clock; y_prev = h.y_prev; d_prev = h.d_prev; mid = turned-value e (alike-mid h.clock); mid_ready = refl; started = h.started }) h

  same-ready : {s t : Track C32} → Tied k s t → ready p m t ≡ ready p l s
  same-ready h = ap₂ (λ (a b : Bool). not a && b) (same-lacks p h) (same-there h.clock.place)

  tied-runs : (n : ℕ) {s t : Track C32} → Tied k s t → TiedStrobes k (runs complex p l n s) (runs complex p m n t)
  unfolding runs
  tied-runs zero h = record { values = none; last = h }
  tied-runs (suc n) h =
      let g = tied-mid h in
      let y = turned-value g.clock.place g.clock.fraction in
      let q = tied-runs n (tied-strobed k p _ g y) in
      cond-related (TiedStrobes k) (sym (same-ready g)) (record { values = more y q.values; last = q.last }) (record { values = none; last = g })

same-consumed : {p q : Params} {k n a : ℕ} {s t : Track C32} → q ≡ p → a ≡ n → Tied k s t → consumed q t a ≡ consumed p s n
unfolding consumed pending
same-consumed {p} e f h = rw (e, f, same-lacks p h, same_mid h.clock, h.clock.place)

tied_back : {k : ℕ} {s t : Track C32} (n : ℕ) → Tied k s t → Tied k (track_back s n) (track_back t n)
unfolding track_back
tied_back n h =
    let c = h.clock in
    record { clock = record { place = ap (λ (i : ℕ). i - n) c.place; fraction = c.fraction; spacing = c.spacing; integrator = c.integrator }; y_prev = h.y_prev; d_prev = h.d_prev; mid = h.mid; mid_ready = h.mid_ready; started = h.started }

-- ---- a state
pub record TiedHist (k : ℕ) (g h : Hist C32) : Type 0 where
  pub a : Turned k g.a h.a
  pub b : Turned k g.b h.b
  pub c : Turned k g.c h.c

pub record TiedSync (k : ℕ) (s t : Sync C32) : Type 0 where
  pub params : t.params ≡ s.params
  pub hist : TiedHist k s.hist t.hist
  pub track : Tied k s.track t.track

-- Q4: two fresh states
pub tied-fresh : (k : ℕ) (p : Params) → TiedSync k (fresh complex p) (fresh complex p)
tied-fresh k p =
    let z = turned_zero k in
    record {
      params = refl;
      hist = record { a = z; b = z; c = z };
      track = record { clock = record { place = refl; fraction = like-refl zero₀; spacing = like-refl p.sps; integrator = like-refl zero₀ }; y_prev = z; d_prev = z; mid = z; mid_ready = refl; started = refl };
    }

-- ---- a run
pub record TiedRan (k : ℕ) (q r : Ran C32) : Type 0 where
  pub state : TiedSync k q.state r.state
  pub taken : r.taken ≡ q.taken
  pub values : AllTurned k q.values r.values

turned-line : {k : ℕ} {g h : Hist C32} {xs ys : List C32} → TiedHist k g h → AllTurned k xs ys → AllTurned k (line g xs) (line h ys)
turned-line t r = more t.a (more t.b (more t.c r))

tied-hist : (k : ℕ) {l m : List C32} (n : ℕ) → AllTurned k l m → TiedHist k (hist_at complex l n) (hist_at complex m n)
unfolding hist_at
tied-hist k n r = record { a = turned-at k r n; b = turned-at k r (n + 1); c = turned-at k r (n + 2) }

pub tied-ran : (k : ℕ) {s t : Sync C32} {xs ys : List C32} (places : ℕ) → TiedSync k s t → AllTurned k xs ys → TiedRan k (ran complex s xs places) (ran complex t ys places)
unfolding ran
tied-ran k {s} {t} {xs} {ys} places h r =
    let l = turned-line h.hist r in
    let q : TiedStrobes k (runs complex s.params (line s.hist xs) places s.track) (runs complex t.params (line t.hist ys) places t.track) = rw h.params (tied-runs k s.params l places h.track) in
    let e = same-consumed h.params (sym (each-length r)) q.last in
    record { state = record { params = h.params; hist = rw e (tied-hist k _ l); track = rw e (tied_back _ q.last) }; taken = e; values = q.values }
