-- The timing loop over any sample type, on one list l: the history and then the input (T7). Definitions only.
use Rattle.std.specs.Prelude.{ℕ, zero, suc, ◌+◌, ◌-◌, min, Bool, true, cond, not, ◌&&◌, List, [], ◌∷◌, length, nat_lt, slice_index_or, Float}
use Rattle.numbers.specs.Narrowing.{narrowed}
use Rattle.timing.specs.declared.params.Ted.{Ted}
use Rattle.timing.specs.declared.params.Ted.TheVariants.{Gardner, MuellerMuller}
use Rattle.timing.specs.declared.params.Params.{Params}
use Rattle.timing.specs.declared.clock.Clock.{Clock}
use Rattle.timing.specs.declared.state.Track as declaredTrack
use Rattle.timing.specs.declared.sample.Window.{Window}
use Rattle.timing.specs.Sample.{Ops}
use Rattle.timing.specs.Clock.{mid_index, mid_part, advanced, settled, lacking, mid_left}

-- T5: what a run changes while it loops
abbrev pub Track : Type 0 → Type 0
Track A = declaredTrack.Track A

abbrev pub lacks : {A : Type 0} → Params → Track A → Bool
lacks p t = lacking p.ted t.started t.mid_ready

-- ---- a value at (i, mu)
-- T7: whether the value at index i is available; l has n + 3 samples
abbrev pub there : {A : Type 0} → List A → ℕ → Bool
there l i = nat_lt (i + 2) (length l)

-- T7: the window at index i
abbrev pub window_at : {A : Type 0} → Ops A → List A → ℕ → Window A
window_at o l i = record { xm1 = slice_index_or l (i - 1) o.zero; x0 = slice_index_or l i o.zero; x1 = slice_index_or l (i + 1) o.zero; x2 = slice_index_or l (i + 2) o.zero }

-- T8: the interpolated value at (i, mu)
unfoldable pub value_at : {A : Type 0} → Ops A → List A → ℕ → Float → A
value_at o l i mu = let w = window_at o l i in o.interp w.xm1 w.x0 w.x1 w.x2 (narrowed mu)

-- ---- T10: the middle is taken first, where it is lacking and available
abbrev pub with_mid : {A : Type 0} → Track A → A → Track A
with_mid t m = record { clock = t.clock; y_prev = t.y_prev; d_prev = t.d_prev; mid = m; mid_ready = true; started = t.started }

unfoldable pub mid_taken : {A : Type 0} → Ops A → Params → List A → Track A → Track A
mid_taken o p l t = let c = t.clock in cond (lacks p t && there l (mid_index c)) (with_mid t (value_at o l (mid_index c) (mid_part c))) t

-- ---- the strobe y
-- T26: the decision that is kept; Gardner makes none, and the previous one stays
unfoldable pub decision : {A : Type 0} → Ops A → Ted → A → A → A
decision o Gardner d y = d
decision o MuellerMuller d y = o.decide y

-- T14, T15: the detector's error, with the decision d of y
unfoldable pub error_of : {A : Type 0} → Ops A → Ted → Track A → A → A → Float
error_of o Gardner t y d = o.gardner t.y_prev y t.mid
error_of o MuellerMuller t y d = o.mm t.d_prev y d t.y_prev

-- T26: what the strobe y changes
unfoldable pub strobed : {A : Type 0} → Ops A → Params → Track A → A → Track A
strobed o p t y =
    let d = decision o p.ted t.d_prev y in
    let e = settled t.started (error_of o p.ted t y d) in
    record { clock = advanced p t.clock e; y_prev = y; d_prev = d; mid = t.mid; mid_ready = mid_left p.ted t.mid_ready; started = true }

-- ---- the strobes of a run with n output places, and the track after them
pub record Strobes (A : Type 0) : Type 0 where
  pub values : List A
  pub last : Track A

-- T12: whether the run goes on: no middle is lacking, and the strobe is available
abbrev pub ready : {A : Type 0} → Params → List A → Track A → Bool
ready p l t = not (lacks p t) && there l t.clock.i

abbrev pub stopped : {A : Type 0} → Track A → Strobes A
stopped t = record { values = []; last = t }

abbrev pub more : {A : Type 0} → A → Strobes A → Strobes A
more y r = record { values = y ∷ r.values; last = r.last }

-- T9: a run with n output places. Where it stops, a middle that was taken stays in the track
unfoldable pub runs : {A : Type 0} → Ops A → Params → List A → ℕ → Track A → Strobes A
runs o p l zero t = stopped t
runs o p l (suc n) t =
    let u = mid_taken o p l t in
    let y = value_at o l u.clock.i u.clock.mu in
    cond (ready p l u) (more y (runs o p l n (strobed o p u y))) (stopped u)

-- ---- the end
-- T19: the next index that the loop needs
unfoldable pub pending : {A : Type 0} → Params → Track A → ℕ
pending p t = cond (lacks p t) (mid_index t.clock) t.clock.i

-- T19: the count consumed, of n input samples
unfoldable pub consumed : {A : Type 0} → Params → Track A → ℕ → ℕ
consumed p t n = min (pending p t - 1) n

-- T20: the clock, and below the track, with k samples consumed
abbrev pub clock_back : Clock → ℕ → Clock
clock_back c k = record { i = c.i - k; mu = c.mu; omega = c.omega; integ = c.integ }

unfoldable pub track_back : {A : Type 0} → Track A → ℕ → Track A
track_back t k = record { clock = clock_back t.clock k; y_prev = t.y_prev; d_prev = t.d_prev; mid = t.mid; mid_ready = t.mid_ready; started = t.started }
