-- The spacing of a steady clock is 3,891/2,048 or more, which is 1.8999: with sps from 2 up and a deviation of at most
-- 0.05, sps less its limit is. Every operation is rounded. Assumes nothing.
use mathlib.Core.Path.{subst}
use Prim.Native.Nat.{ℕ, suc, ◌*◌}
use native.Mathlib.Omega.{arith}
use lib.Dec.{T}
use lib.Ieee.{Float, binary64, round, le}
use lib.Ieee.Scale.{finite}
use Rattle.ieee.specs.Notation.{◌⊟◌, ◌⊠◌, zero₀, two₀}
use Rattle.ieee.proofs.Laws.Order.{le-trans-float}
use Rattle.ieee.proofs.Laws.Mono.{sub-mono, mul_mono}
use Rattle.timing.specs.declared.params.Params.{Params}
use Rattle.timing.specs.Given.{Tuned}
use Rattle.timing.proofs.Laws.Setup.{million₀, twentieth₀, limits}
use Rattle.timing.proofs.Laws.Pace.{lim-finite}
use Rattle.density.proofs.Laws.Grid.{grid, Held, grid-val, grid-nonneg, difference-over, product-under, Cell, cell}

-- the least spacing
abbrev pub least₀ : Float
least₀ = grid 11 3891

-- the greatest deviation, 0.05, is below 1,639/32,768
abbrev pull₀ : Float
pull₀ = grid 15 1639

pull-held : Held 15 1639
pull-held = (omega arith, omega arith)

-- ---- of an sps and a deviation that a set-up accepts
module _ (sps dev : Float) (S : T (finite sps)) (low : T (le two₀ sps)) (high : T (le sps million₀)) (D : T (finite dev)) (small : T (le dev twentieth₀)) where
  -- sps lies between n / 1024 and (n + 1) / 1024
  sps-cell : Cell 10 2048 1024000000 sps
  unfolding round le
  sps-cell = cell 10 2048 1024000000 sps (omega arith) (omega arith, omega arith) (le-trans-float (grid 10 2048) two₀ sps tt low) (le-trans-float sps million₀ (grid 10 1024000000) high tt)

  abbrev n : ℕ
  n = sps-cell.n

  n_held : Held 10 n
  n_held = let m = sps-cell.most in (omega arith, omega arith)

  next-held : Held 10 (suc n)
  next-held = let m = sps-cell.most in (omega arith, omega arith)

  dev-under : T (le dev pull₀)
  unfolding round le
  dev-under = le-trans-float dev twentieth₀ pull₀ small tt

  -- so the limit is at most 1,639 × (n + 1) / 2^25
  abbrev limit : Float
  limit = grid 25 (1639 * suc n)

  limit-held : Held 25 (1639 * suc n)
  limit-held = let m = sps-cell.most in (omega arith, omega arith)

  lim-under : T (le (dev ⊠ sps) limit)
  lim-under =
      le-trans-float (dev ⊠ sps) (pull₀ ⊠ grid 10 (suc n)) limit
      (mul_mono binary64 dev pull₀ sps (grid 10 (suc n)) D (grid-val pull-held).0 S (grid-val next-held).0 (grid-nonneg pull-held) (le-trans-float zero₀ two₀ sps (unfold le in tt) low) dev-under sps-cell.high)
      (product-under 15 1639 10 (suc n) 25 (1639 * suc n) pull-held next-held limit-held (omega arith))

  left_over : T (finite (dev ⊠ sps)) → T (le least₀ (sps ⊟ dev ⊠ sps))
  left_over L =
      le-trans-float least₀ (grid 10 n ⊟ limit) (sps ⊟ dev ⊠ sps)
      (difference-over 10 n 25 (1639 * suc n) 11 3891 n_held limit-held (omega arith, omega arith) (let m = sps-cell.least in omega arith))
      (sub-mono binary64 (grid 10 n) sps limit (dev ⊠ sps) (grid-val n_held).0 S (grid-val limit-held).0 L sps-cell.low lim-under)

-- ---- so a steady clock's spacing, which is sps less the limit or more, is that too
pub spacing-least : (p : Params) → Tuned p → (w : Float) → T (le (p.sps ⊟ p.lim) w) → T (le least₀ w)
spacing-least p t w h =
    let k = limits p t in
    let e = k.lim_is in
    le-trans-float least₀ (p.sps ⊟ p.lim) w
    (rw e (left_over p.sps p.max_deviation k.sps-finite k.sps-low k.sps-high k.dev-finite k.dev-high (subst (λ (x : Float). T (finite x)) e (lim-finite p t)))) h
