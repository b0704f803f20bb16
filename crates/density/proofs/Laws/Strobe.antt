-- One strobe moves a steady clock's place on by 1,459/1,024 of a sample or more, counted in whole 1/1,024, whatever the
-- error is, if only it is finite. Assumes nothing.
use mathlib.Core.Path.{subst}
use Prim.Native.Nat.{ℕ, suc, ◌+◌, ◌*◌, ◌/◌, ◌%◌, ◌≤◌, ◌<◌}
use native.Mathlib.Nat.{zero-lt-suc, div-add-mod', mod-lt, lt_of_mul-lt-mul_right}
use native.Mathlib.Omega.{arith}
use lib.Dec.{T}
use lib.Ieee.{Float, binary64, neg, le}
use lib.Ieee.Scale.{finite}
use lib.Ieee.Positive.{den, den_pos}
use Rattle.ieee.specs.Notation.{◌⊠◌, zero₀, quarter₀}
use Rattle.ieee.specs.Fraction.{plus, Val}
use Rattle.ieee.proofs.Laws.Number.{mul-number}
use Rattle.ieee.proofs.Laws.Order.{lt→le, less_none, own_val, le→vals, vals→le}
use Rattle.numbers.specs.Range.{limited}
use Rattle.numbers.proofs.Laws.Range.{limit-in}
use Rattle.numbers.proofs.Laws.Part.{floor-plain, part-is}
use Rattle.timing.specs.declared.params.Params.{Params}
use Rattle.timing.specs.declared.clock.Clock.{Clock}
use Rattle.timing.specs.Clock.{new_omega, moved, advanced}
use Rattle.timing.specs.Given.{Tuned, Steady}
use Rattle.timing.proofs.Laws.Setup.{limits}
use Rattle.timing.proofs.Laws.Step.{Beat, quarter-nonneg, quarter-finite}
use Rattle.timing.proofs.Laws.Strobe.{beat, v-fits, v-finite, v_above, advanced-steady, advanced-i}
use Rattle.density.specs.Strobes.{apart}
use Rattle.density.proofs.Laws.Grid.{grid, Held, grid-val}
use Rattle.density.proofs.Laws.Spacing.{spacing-least}
use Rattle.density.proofs.Laws.Stride.{move-apart}

-- the clock's place i + mu is a / 1024 or more, for a mu of t / 1024 or more
pub record Past (a : ℕ) (c : Clock) : Type 0 where
  pub t : ℕ
  pub small : t < 1024
  pub fraction : T (le (grid 10 t) c.mu)
  pub reached : a ≤ 1024 * c.i + t

-- x / 1024 is at most P / d, the fraction of which holds t whole 1/1024
rest : (x P d : ℕ) → 0 < d → x * d ≤ P * 1024 → let t = P % d * 1024 / d in (t < 1024) × (t * d ≤ P % d * 1024) × (x ≤ 1024 * (P / d) + t)
rest x P d D h =
    let e = div-add-mod' P d in
    let r = mod-lt P D in
    let f = div-add-mod' (P % d * 1024) d in
    let g = mod-lt (P % d * 1024) D in
    let k : x < suc (1024 * (P / d) + P % d * 1024 / d) = lt_of_mul-lt-mul_right d (omega arith) in
    (lt_of_mul-lt-mul_right d (omega arith), omega arith, omega arith)

module _ (p : Params) (c : Clock) (e : Float) (tuned : Tuned p) (s : Steady p c) (E : T (finite e)) where
  abbrev w : Float
  w = new_omega p c e

  abbrev v : Float
  v = moved p c e

  after : Steady p (advanced p c e)
  after = advanced-steady p c e tuned s E

  -- the old fraction and the new spacing
  stride : Beat c.mu w
  unfolding advanced
  stride =
      let old = beat tuned s in
      let new = beat tuned after in
      record { mu-fits = old.mu-fits; mu-finite = old.mu-finite; mu-low = old.mu-low; mu-high = old.mu-high; w_fits = new.w_fits; w-finite = new.w-finite; w-low = new.w-low; w-high = new.w-high }

  abbrev push : Float
  push = limited (p.kp ⊠ e) (w ⊠ quarter₀)

  push-in : T (le (neg (w ⊠ quarter₀)) push) × T (le push (w ⊠ quarter₀))
  push-in = limit-in (p.kp ⊠ e) (w ⊠ quarter₀) (mul-number binary64 p.kp e (limits p tuned).kp-finite E) (quarter-finite c.mu w stride) (quarter-nonneg c.mu w stride)

  v-apart : (t : ℕ) → t < 1024 → T (le (grid 10 t) c.mu) → T (le (grid 10 (t + apart)) v)
  unfolding advanced moved
  v-apart = move-apart c.mu w push stride (spacing-least p tuned w after.omega-low) push-in.0 push-in.1

  v-nonneg : T (le zero₀ v)
  v-nonneg = lt→le zero₀ v (v_above p c e tuned s E)

  pub advanced-past : {a : ℕ} → Past a c → Past (a + apart) (advanced p c e)
  unfolding advanced
  advanced-past {a} q =
      let is = v-finite p c e tuned s E in
      let none = less_none v is v-nonneg in
      let own : Val v (plus v) 0 (den v) = subst (λ (n : ℕ). Val v (plus v) n (den v)) none (own_val v is) in
      let x = q.t + apart in
      let old = q.small in
      let X : Held 10 x = (omega arith, omega arith) in
      let h = le→vals (grid 10 x) v x 0 1024 (plus v) 0 (den v) (zero-lt-suc 1023) (den_pos v) (grid-val X) own (v-apart q.t old q.fraction) in
      let r = rest x (plus v) (den v) (den_pos v) (omega arith) in
      let i = advanced-i p c e tuned s E in
      let f = (floor-plain v is none).0 in
      let m = q.reached in
      let t = plus v % den v * 1024 / den v in
      let new : Held 10 t = let y = r.0 in (omega arith, omega arith) in
      record {
        t = t;
        small = r.0;
        fraction = vals→le (grid 10 t) _ t 0 1024 (plus v % den v) 0 (den v) (zero-lt-suc 1023) (den_pos v) (grid-val new) (part-is v is (v-fits p c e tuned s E) v-nonneg) (let y = r.1 in omega arith);
        reached = let y = r.2 in omega arith;
      }
