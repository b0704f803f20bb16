-- The spacing of the strobes: with sps from 2 to 1,000,000 and a deviation of at most 0.05, sps less its limit
-- is 3/2 or more, and sps plus its limit at most 1,050,000. So the spacing of a steady clock lies between these.
-- Assumes nothing.
use Rattle.std.proofs.Common.{◌≡◌, Bool, true, false, T, pos, negsuc, refl, subst}
use lib.Ieee.{Float, fin, binary64, add, sub, mul, neg, le, lt}
use lib.Ieee.Scale.{finite}
use Rattle.ieee.specs.Notation.{zero₀, half₀, one₀, two₀, three₀}
use Rattle.ieee.proofs.Laws.Test.{yes, no}
use Rattle.ieee.proofs.Laws.Algebra.{mul-swap, sub_is}
use Rattle.ieee.proofs.Laws.Order.{le-trans-float, le-refl-float, finite_number, lt→le, not-lt→le, neg-finite, between}
use Rattle.ieee.proofs.Laws.Exact.{minus-zero}
use Rattle.ieee.proofs.Laws.Mono.{add-mono, sub-mono, mul_mono, mul-mono-left, mul-nonneg}
use Rattle.timing.specs.declared.params.Params.{Params}
use Rattle.timing.specs.Given.{Tuned}
use Rattle.timing.proofs.Laws.Setup.{million₀, twentieth₀, Limits, limits}
use Rattle.timing.proofs.Laws.Half.{one-nonneg, half-left}

-- 1,050,000, and the limit of an sps of a million
abbrev pub widest₀ : Float
widest₀ = fin false 65625 (pos 4)

abbrev most₀ : Float
most₀ = fin false 3125 (pos 4)

top-limit : mul binary64 twentieth₀ million₀ ≡ most₀
unfolding mul
top-limit = refl

top-pace : add binary64 million₀ most₀ ≡ widest₀
unfolding add
top-pace = refl

-- 3/2, which is half of 3 and 2 less a half
abbrev pub three_halves₀ : Float
three_halves₀ = fin false 3 (negsuc 0)

half_of_three : mul binary64 three₀ half₀ ≡ three_halves₀
unfolding mul
half_of_three = refl

two-less-half : sub binary64 two₀ half₀ ≡ three_halves₀
unfolding sub
two-less-half = refl

module _ (p : Params) (t : Tuned p) where
  abbrev sps : Float
  sps = p.sps

  abbrev dev : Float
  dev = p.max_deviation

  abbrev known : Limits p
  known = limits p t

  sps-one : T (le one₀ sps)
  sps-one = le-trans-float one₀ two₀ sps (unfold le in tt) known.sps-low

  sps-nonneg : T (le zero₀ sps)
  sps-nonneg = one-nonneg sps sps-one

  -- ---- the limit
  pub lim-nonneg : T (le zero₀ p.lim)
  lim-nonneg = rw known.lim_is (mul-nonneg binary64 dev sps known.dev-finite known.sps-finite known.dev-low sps-nonneg)

  lim-high : T (le p.lim most₀)
  lim-high = rw (known.lim_is, ← top-limit) (mul_mono binary64 dev twentieth₀ sps million₀ known.dev-finite tt known.sps-finite tt (unfold le in tt) sps-nonneg known.dev-high known.sps-high)

  pub lim-finite : T (finite p.lim)
  lim-finite = between zero₀ p.lim most₀ tt tt lim-nonneg lim-high

  -- lim ≤ sps / 2
  lim-half : T (le p.lim (mul binary64 sps half₀))
  lim-half =
      rw (known.lim_is, mul-swap binary64 sps half₀)
      (mul-mono-left binary64 dev half₀ sps known.dev-finite tt known.sps-finite sps-nonneg (le-trans-float dev twentieth₀ half₀ known.dev-high (unfold le in tt)))

  half-left-over : T (le (mul binary64 sps half₀) (sub binary64 sps p.lim))
  half-left-over = half-left sps p.lim known.sps-finite t.sps-fits sps-one lim-finite lim-half

  -- and at least 3/2: half of an sps of 3 or more is, and below 3 the limit is less than 1/2
  brisk : T (le three_halves₀ (sub binary64 sps p.lim))
  brisk = go (lt sps three₀) refl
    where
      go : (b : Bool) → lt sps three₀ ≡ b → T (le three_halves₀ (sub binary64 sps p.lim))
      go true e =
          let below = lt→le sps three₀ (yes e) in
          let small : T (le p.lim half₀) = rw known.lim_is (le-trans-float (mul binary64 dev sps) (mul binary64 twentieth₀ three₀) half₀ (mul_mono binary64 dev twentieth₀ sps three₀ known.dev-finite tt known.sps-finite tt (unfold le in tt) sps-nonneg known.dev-high below) (unfold mul le in tt)) in
          rw (← two-less-half) (sub-mono binary64 two₀ sps half₀ p.lim tt known.sps-finite tt lim-finite known.sps-low small)
      go false e =
          let above = not-lt→le sps three₀ (finite_number sps known.sps-finite) tt (no e) in
          le-trans-float three_halves₀ (mul binary64 sps half₀) (sub binary64 sps p.lim) (rw (← half_of_three) (mul-mono-left binary64 three₀ sps half₀ tt known.sps-finite tt (unfold le in tt) above)) half-left-over

  fast : T (le (add binary64 sps p.lim) widest₀)
  fast = rw (← top-pace) (add-mono binary64 sps million₀ p.lim most₀ known.sps-finite tt lim-finite tt known.sps-high lim-high)

  -- ---- what lies within sps ± lim
  pub spacing-brisk : (w : Float) → T (le (sub binary64 sps p.lim) w) → T (le three_halves₀ w)
  spacing-brisk w h = le-trans-float three_halves₀ (sub binary64 sps p.lim) w brisk h

  pub spacing-low : (w : Float) → T (le (sub binary64 sps p.lim) w) → T (le one₀ w)
  spacing-low w h = le-trans-float one₀ three_halves₀ w (unfold le in tt) (spacing-brisk w h)

  pub spacing-high : (w : Float) → T (le w (add binary64 sps p.lim)) → T (le w widest₀)
  spacing-high w h = le-trans-float w (add binary64 sps p.lim) widest₀ h fast

  -- sps + x does, for an x within ± lim
  pub spacing-of : (x : Float) → T (finite x) → T (le (neg p.lim) x) → T (le x p.lim) → T (le (sub binary64 sps p.lim) (add binary64 sps x)) × T (le (add binary64 sps x) (add binary64 sps p.lim))
  spacing-of x q h k =
      let s = known.sps-finite in
      let same = le-refl-float sps (finite_number sps s) in (
        rw (sub_is binary64 sps p.lim) (add-mono binary64 sps sps (neg p.lim) x s s (neg-finite p.lim lim-finite) q same h),
        add-mono binary64 sps sps x p.lim s s q lim-finite same k,
      )

  -- and so does sps itself
  pub spacing-own : T (le (sub binary64 sps p.lim) sps) × T (le sps (add binary64 sps p.lim))
  spacing-own =
      let s = known.sps-finite in
      let same = le-refl-float sps (finite_number sps s) in
      let none = minus-zero binary64 sps t.sps-fits in (
        subst (λ (x : Float). T (le (sub binary64 sps p.lim) x)) none (sub-mono binary64 sps sps p.lim zero₀ s s lim-finite tt same lim-nonneg),
        subst (λ (x : Float). T (le x (add binary64 sps p.lim))) none
            (rw (sub_is binary64 sps zero₀) (add-mono binary64 sps sps (neg zero₀) p.lim s s (neg-finite zero₀ tt) lim-finite same (le-trans-float (neg zero₀) zero₀ p.lim (unfold neg le in tt) lim-nonneg))),
      )
