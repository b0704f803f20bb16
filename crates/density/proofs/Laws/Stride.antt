-- One move of the clock (T18): with a fraction mu from 0 up to 1, a spacing w of 3,891/2,048 or more and a push within
-- ± w / 4, v = (mu + w) + push lies 1,459/1,024 or more above mu, counted in whole 1/1,024. Every operation is rounded.
-- Assumes nothing.
use Prim.Native.Nat.{ℕ, suc, ◌+◌, ◌*◌, ◌<◌}
use native.Mathlib.Omega.{arith}
use lib.Dec.{T}
use lib.Ieee.{Float, binary64, add, round, neg, le}
use lib.Ieee.Scale.{finite}
use Rattle.ieee.specs.Notation.{◌⊞◌, ◌⊟◌, ◌⊠◌, zero₀, quarter₀, one₀}
use Rattle.ieee.specs.Fraction.{Span}
use Rattle.ieee.proofs.Laws.Algebra.{sub_is}
use Rattle.ieee.proofs.Laws.Order.{le-trans-float, lt→le, neg-le, neg-finite, between}
use Rattle.ieee.proofs.Laws.Mono.{add-mono, mul-mono-left}
use Rattle.ieee.proofs.Laws.Span.{add-span, span-finite}
use Rattle.timing.proofs.Laws.Pace.{widest₀}
use Rattle.timing.proofs.Laws.Step.{Beat, move, quarter-finite}
use Rattle.density.specs.Strobes.{apart}
use Rattle.density.proofs.Laws.Grid.{grid, Held, grid-val, sum_over, difference-over, product-under, Cell, cell}
use Rattle.density.proofs.Laws.Spacing.{least₀}

module _ (mu w push : Float) (b : Beat mu w) (least : T (le least₀ w)) (low : T (le (neg (w ⊠ quarter₀)) push)) (high : T (le push (w ⊠ quarter₀))) where
  -- w lies between n / 2048 and (n + 1) / 2048
  w_cell : Cell 11 3891 2150400000 w
  unfolding round le
  w_cell = cell 11 3891 2150400000 w (omega arith) (omega arith, omega arith) least (le-trans-float w widest₀ (grid 11 2150400000) b.w-high tt)

  abbrev n : ℕ
  n = w_cell.n

  n_held : Held 11 n
  n_held = let m = w_cell.most in (omega arith, omega arith)

  next-held : Held 11 (suc n)
  next-held = let m = w_cell.most in (omega arith, omega arith)

  -- so the push is -(n + 1) / 8192 or more
  abbrev quarter : Float
  quarter = grid 13 (suc n)

  quarter-held : Held 13 (suc n)
  quarter-held = let m = w_cell.most in (omega arith, omega arith)

  quarter-under : T (le (w ⊠ quarter₀) quarter)
  unfolding round
  quarter-under =
      le-trans-float (w ⊠ quarter₀) (grid 11 (suc n) ⊠ quarter₀) quarter
      (mul-mono-left binary64 w (grid 11 (suc n)) quarter₀ b.w-finite (grid-val next-held).0 tt (unfold le in tt) w_cell.high)
      (product-under 11 (suc n) 2 1 13 (suc n) next-held (omega arith, omega arith) quarter-held (omega arith))

  push-over : T (le (neg quarter) push)
  push-over = le-trans-float (neg quarter) (neg (w ⊠ quarter₀)) push (neg-le (w ⊠ quarter₀) quarter quarter-under) low

  push-finite : T (finite push)
  push-finite = let q = quarter-finite mu w b in between (neg (w ⊠ quarter₀)) push (w ⊠ quarter₀) (neg-finite (w ⊠ quarter₀) q) q low high

  sum-finite : T (finite (mu ⊞ w))
  sum-finite =
      let zero_one : Span zero₀ one₀ mu = record { top = tt; from = unfold le in tt; low = b.mu-low; high = lt→le mu one₀ b.mu-high } in
      let one-widest : Span one₀ widest₀ w = record { top = tt; from = unfold le in tt; low = b.w-low; high = b.w-high } in
      span-finite (add-span binary64 zero_one one-widest (unfold add in tt))

  -- ---- from t / 1024 on
  module _ (t : ℕ) (small : t < 1024) (from : T (le (grid 10 t) mu)) where
    t-held : Held 10 t
    t-held = (omega arith, omega arith)

    abbrev sum : Float
    sum = grid 11 (2 * t + n)

    sum-held : Held 11 (2 * t + n)
    sum-held = let m = w_cell.most in (omega arith, omega arith)

    sum-above : T (le sum (mu ⊞ w))
    sum-above =
        le-trans-float sum (grid 10 t ⊞ grid 11 n) (mu ⊞ w)
        (sum_over 10 t 11 n 11 (2 * t + n) t-held n_held sum-held (omega arith))
        (add-mono binary64 (grid 10 t) mu (grid 11 n) w (grid-val t-held).0 b.mu-finite (grid-val n_held).0 b.w-finite from w_cell.low)

    pub move-apart : T (le (grid 10 (t + apart)) (move mu w push))
    move-apart =
        le-trans-float (grid 10 (t + apart)) (sum ⊟ quarter) (move mu w push)
        (difference-over 11 (2 * t + n) 13 (suc n) 10 (t + apart) sum-held quarter-held (omega arith, omega arith) (let m = w_cell.least in omega arith))
        (rw (sub_is binary64 sum quarter)
        (add-mono binary64 sum (mu ⊞ w) (neg quarter) push (grid-val sum-held).0 sum-finite (neg-finite quarter (grid-val quarter-held).0) push-finite sum-above push-over))
