-- One strobe keeps a steady clock steady, moves its place on by 1 to 1,312,501, and puts the next middle no earlier
-- than the place it left, whatever the error is, if only it is finite. Assumes nothing.
use Rattle.std.proofs.Common.{◌≡◌, ◌+◌, ◌≤◌, T, arith}
use lib.Ieee.{Float, binary64, add, sub, mul, neg, le, lt, fits}
use lib.Ieee.Fits.{add-fits, sub-fits}
use lib.Ieee.Scale.{finite}
use Rattle.ieee.specs.Notation.{zero₀, one₀, quarter₀}
use Rattle.ieee.proofs.Laws.Number.{mul-number, add-number}
use Rattle.ieee.proofs.Laws.Order.{neg-finite, between, lt→le}
use Rattle.numbers.specs.Whole.{floored, floor_plus, floor_less}
use Rattle.numbers.specs.Range.{limited}
use Rattle.numbers.proofs.Laws.Denormal.{flush-number}
use Rattle.numbers.proofs.Laws.Range.{limit-in}
use Rattle.timing.specs.declared.params.Params.{Params}
use Rattle.timing.specs.declared.clock.Clock.{Clock}
use Rattle.timing.specs.Clock.{midway, new_integ, new_omega, moved, advanced}
use Rattle.timing.specs.Given.{Tuned, Steady}
use Rattle.timing.proofs.Laws.Setup.{limits}
use Rattle.timing.proofs.Laws.Pace.{widest₀, lim-nonneg, lim-finite, spacing-low, spacing-brisk, spacing-high, spacing-of}
use Rattle.timing.proofs.Laws.Step.{Beat, quarter-nonneg, quarter-finite, move-low, move-finite, move-above, move-nonneg, move-on, move-far, left-low, left-high, move-onward}
use Rattle.timing.proofs.Laws.Middle.{next-near}

-- ---- a steady clock's fraction and spacing
beat-of : (p : Params) (mu w : Float) → Tuned p → T (fits binary64 mu) → T (le zero₀ mu) → T (lt mu one₀) → T (fits binary64 w) → T (le (sub binary64 p.sps p.lim) w) → T (le w (add binary64 p.sps p.lim)) → Beat mu w
beat-of p mu w t f l h F L H =
    let low = spacing-low p t w L in
    let high = spacing-high p t w H in
    record {
      mu-fits = f;
      mu-finite = between zero₀ mu one₀ tt tt l (lt→le mu one₀ h);
      mu-low = l;
      mu-high = h;
      w_fits = F;
      w-finite = between one₀ w widest₀ tt tt low high;
      w-low = low;
      w-high = high;
    }

pub beat : {p : Params} {c : Clock} → Tuned p → Steady p c → Beat c.mu c.omega
beat {p} {c} t s = beat-of p c.mu c.omega t s.mu-fits s.mu-low s.mu-high s.omega-fits s.omega-low s.omega-high

-- ---- one strobe
module _ (p : Params) (c : Clock) (e : Float) (t : Tuned p) (s : Steady p c) (E : T (finite e)) where
  abbrev integ : Float
  integ = new_integ p c e

  abbrev w : Float
  w = new_omega p c e

  abbrev v : Float
  v = moved p c e

  old-finite : T (finite c.integ)
  old-finite = let l = lim-finite p t in between (neg p.lim) c.integ p.lim (neg-finite p.lim l) l s.integ-low s.integ-high

  integ-in : T (le (neg p.lim) integ) × T (le integ p.lim)
  unfolding new_integ
  integ-in =
      limit-in _ p.lim (flush-number binary64 _ (add-number binary64 c.integ (mul binary64 p.ki e) old-finite (mul-number binary64 p.ki e (limits p t).ki-finite E)))
      (lim-finite p t) (lim-nonneg p t)

  integ-finite : T (finite integ)
  integ-finite = let l = lim-finite p t in between (neg p.lim) integ p.lim (neg-finite p.lim l) l integ-in.0 integ-in.1

  omega-in : T (le (sub binary64 p.sps p.lim) w) × T (le w (add binary64 p.sps p.lim))
  unfolding new_omega
  omega-in = spacing-of p t integ integ-finite integ-in.0 integ-in.1

  omega-fits : T (fits binary64 w)
  unfolding new_omega
  omega-fits = add-fits binary64 p.sps integ

  stride : Beat c.mu w
  stride = beat-of p c.mu w t s.mu-fits s.mu-low s.mu-high omega-fits omega-in.0 omega-in.1

  abbrev push : Float
  push = limited (mul binary64 p.kp e) (mul binary64 w quarter₀)

  push-in : T (le (neg (mul binary64 w quarter₀)) push) × T (le push (mul binary64 w quarter₀))
  push-in =
      limit-in (mul binary64 p.kp e) (mul binary64 w quarter₀) (mul-number binary64 p.kp e (limits p t).kp-finite E)
      (quarter-finite c.mu w stride) (quarter-nonneg c.mu w stride)

  pub v-fits : T (fits binary64 v)
  unfolding moved
  v-fits = add-fits binary64 (add binary64 c.mu w) push

  pub v-finite : T (finite v)
  unfolding moved
  v-finite = move-finite c.mu w push stride push-in.0 push-in.1

  pub v_above : T (lt zero₀ v)
  unfolding moved
  v_above = move-above c.mu w push stride push-in.0 push-in.1

  v-on : floor_less v ≡ 0
  unfolding moved
  v-on = move-on c.mu w push stride push-in.0 push-in.1

  pub v-far : floor_plus v ≤ 1312501
  unfolding moved
  v-far = move-far c.mu w push stride push-in.0 push-in.1

  pub v-onward : 1 ≤ floor_plus v
  unfolding moved
  v-onward = move-onward c.mu w push stride push-in.0 push-in.1 (spacing-brisk p t w omega-in.0)

  pub advanced-steady : Steady p (advanced p c e)
  unfolding advanced moved
  advanced-steady =
      record {
        mu-fits = sub-fits binary64 v (floored v);
        mu-low = left-low c.mu w push stride push-in.0 push-in.1;
        mu-high = left-high c.mu w push stride push-in.0 push-in.1;
        omega-fits = omega-fits;
        omega-low = omega-in.0;
        omega-high = omega-in.1;
        integ-low = integ-in.0;
        integ-high = integ-in.1;
      }

  pub advanced-i : (advanced p c e).i ≡ c.i + floor_plus v
  unfolding advanced
  advanced-i = let z = v-on in omega arith

  -- the next middle does not come before this strobe
  pub middle-on : floor_less (midway (advanced p c e)) ≤ floor_plus v
  unfolding midway advanced moved
  middle-on = next-near v w v-finite v-fits (move-nonneg c.mu w push stride push-in.0 push-in.1) (beat t advanced-steady) (move-low c.mu w push stride push-in.0 push-in.1)
