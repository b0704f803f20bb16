-- What holds of the clock and its place holds again after a strobe, once the middle is taken, and after a run,
-- whatever the samples are. Assumes nothing.
use Rattle.std.proofs.Common.{◌≡◌, ℕ, ◌-◌, ◌^◌, ◌<◌, ◌≤◌, min, Bool, true, false, cond, T, arith}
use lib.Ieee.{Float, binary64, mul, neg, le, lt, fits}
use lib.Ieee.Fits.{sub-fits}
use lib.Ieee.Scale.{finite}
use Rattle.ieee.specs.Notation.{zero₀, half₀}
use Rattle.ieee.proofs.Laws.Order.{le-trans-float, neg-le}
use Rattle.numbers.specs.Whole.{floor_plus, floor_less}
use Rattle.numbers.proofs.Laws.Range.{finite-or-zero}
use Rattle.timing.specs.declared.params.Params.{Params}
use Rattle.timing.specs.declared.clock.Clock.{Clock}
use Rattle.timing.specs.Clock.{midway, mid_index, advanced, moved, settled, Back, On}
use Rattle.timing.specs.Loop.{clock_back}
use Rattle.timing.specs.Given.{Tuned, Steady, Running, GivenMiddle, GivenStrobe}
use Rattle.timing.proofs.Laws.Pace.{lim-nonneg, spacing-own}
use Rattle.timing.proofs.Laws.Middle.{mid-finite, mid_back, mid-near}
use Rattle.timing.proofs.Laws.Strobe.{beat, v-fits, v-finite, v_above, v-far, advanced-steady, advanced-i, middle-on}

-- ---- an error that the clock takes is finite
pub settled-finite : (started : Bool) (e : Float) → T (finite (settled started e))
unfolding settled
settled-finite false e = tt
settled-finite true e = finite-or-zero e

-- ---- the middle's v: its whole part lies in -525,000 to 0
record Behind (v : Float) : Type 0 where
  pub is : T (finite v)
  pub not_on : floor_plus v ≡ 0
  pub near : floor_less v ≤ 525000

behind : {p : Params} {c : Clock} → Tuned p → Steady p c → Behind (midway c)
unfolding midway
behind {p} {c} t s = let b = beat t s in record { is = mid-finite c.mu c.omega b; not_on = mid_back c.mu c.omega b; near = mid-near c.mu c.omega b }

-- the place does not matter
pub kept : {p : Params} {c : Clock} (i : ℕ) → Steady p c → Steady p (record { i = i; mu = c.mu; omega = c.omega; integ = c.integ })
kept i s = record { mu-fits = s.mu-fits; mu-low = s.mu-low; mu-high = s.mu-high; omega-fits = s.omega-fits; omega-low = s.omega-low; omega-high = s.omega-high; integ-low = s.integ-low; integ-high = s.integ-high }

-- ---- n samples of input are ahead
-- the clock can take any finite error
pub running-able : (p : Params) (c : Clock) (b : Bool) (n : ℕ) → Running p c b n → c.i ≤ n → n < 2 ^ 63 → (e : Float) → T (finite e) → On c.i (moved p c e)
running-able p c b n g h k e E =
    let t = g.params in
    let s = g.steady in
    let f = v-far p c e t s E in
    record { v-fits = v-fits p c e t s E; v-finite = v-finite p c e t s E; above = v_above p c e t s E; room = omega arith; small = omega arith }

-- after a strobe; the middle may be lacking again
pub running-advanced : (p : Params) (c : Clock) (b : Bool) (n : ℕ) → Running p c b n → (e : Float) → T (finite e) → c.i ≤ n → (b' : Bool) → Running p (advanced p c e) b' n
running-advanced p c b n g e E h b' =
    let t = g.params in
    let s = g.steady in
    let f = v-far p c e t s E in
    let i = advanced-i p c e t s E in
    let m = middle-on p c e t s E in
    let o = g.first in
    record { params = t; steady = advanced-steady p c e t s E; first = omega arith; far = omega arith; mid-first = λ _. omega arith }

-- once the middle is taken
pub running-ready : (p : Params) (c : Clock) (b : Bool) (n : ℕ) → Running p c b n → Running p c false n
running-ready p c b n g = record { params = g.params; steady = g.steady; first = g.first; far = g.far; mid-first = λ x. absurd x }

-- so a given clock whose strobe is available can take the detector's error, once it is settled
pub strobe-moves : {p : Params} {c : Clock} → GivenStrobe p c → (started : Bool) (e : Float) → On c.i (moved p c (settled started e))
strobe-moves {p} {c} g started e = running-able p c g.mid g.ahead g.running g.there g.small (settled started e) (settled-finite started e)

-- the middle's place lies back of the strobe's
pub running-mid : (p : Params) (c : Clock) (b : Bool) (n : ℕ) → Running p c b n → T b → Back c.i (midway c)
running-mid p c b n g l =
    let d = behind g.params g.steady in
    let z = d.not_on in
    let k = d.near in
    let m = g.mid-first l in
    record { v-fits = unfold midway in sub-fits binary64 c.mu (mul binary64 c.omega half₀); v-finite = d.is; not_on = z; room = omega arith; small = omega arith }

pub middle-back : {c : Clock} → GivenMiddle c → Back c.i (midway c)
middle-back {c} g = running-mid g.1.0 c true g.0 g.1.1 tt

-- the next place needed is 1 or more, and not past the strobe's
pub running-pending : (p : Params) (c : Clock) (b : Bool) (n : ℕ) → Running p c b n → let k = cond b (mid_index c) c.i in (1 ≤ k) × (k ≤ c.i)
running-pending p c true n g =
    let m = g.mid-first tt in
    let z = (behind g.params g.steady).not_on in
    (m, omega arith)
running-pending p c false n g = let o = g.first in (o, omega arith)

-- after a run, with the samples before that place consumed; the clock's place alone changes
pub running-back : (p : Params) (c : Clock) (b : Bool) (n : ℕ) → Running p c b n → Running p (clock_back c (min (cond b (mid_index c) c.i - 1) n)) b 0
unfolding midway
running-back p c true n g =
    let d = behind g.params g.steady in
    let z = d.not_on in
    let k = d.near in
    let m = g.mid-first tt in
    let f = g.far in
    record { params = g.params; steady = kept _ g.steady; first = omega arith; far = omega arith; mid-first = λ _. omega arith }
running-back p c false n g =
    let o = g.first in
    let f = g.far in
    record { params = g.params; steady = kept _ g.steady; first = omega arith; far = omega arith; mid-first = λ x. absurd x }

-- more input ahead
pub running_more : (p : Params) (c : Clock) (b : Bool) (n : ℕ) → Running p c b 0 → Running p c b n
running_more p c b n g = let f = g.far in record { params = g.params; steady = g.steady; first = g.first; far = omega arith; mid-first = g.mid-first }

-- a fresh clock
pub running-fresh : (p : Params) → Tuned p → Running p (record { i = 4; mu = zero₀; omega = p.sps; integ = zero₀ }) false 0
unfolding le lt fits
running-fresh p t =
    let l = lim-nonneg p t in
    let w = spacing-own p t in
    record {
      params = t;
      steady =
          record {
            mu-fits = tt;
            mu-low = tt;
            mu-high = tt;
            omega-fits = t.sps-fits;
            omega-low = w.0;
            omega-high = w.1;
            integ-low = le-trans-float (neg p.lim) (neg zero₀) zero₀ (neg-le zero₀ p.lim l) (unfold neg in tt);
            integ-high = l;
          };
      first = omega arith;
      far = omega arith;
      mid-first = λ x. absurd x;
    }
