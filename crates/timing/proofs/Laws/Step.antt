-- One move of the clock (T18): with a fraction mu from 0 up to 1, a spacing w from 1 to 1,050,000 and a push
-- within ± w / 4, v = (mu + w) + push is at least w / 2 and at most 1,312,501. So its whole part is at most that,
-- and what is left over it lies from 0 to below 1; from a spacing of 3/2 on the whole part is 1 or more.
-- Every operation is rounded. Assumes nothing.
use Rattle.std.proofs.Common.{◌≡◌, ℕ, zero, suc, ◌+◌, ◌*◌, ◌<◌, ◌≤◌, Bool, true, false, T, pos, refl, mul-le-mul_right, zero-lt-suc, lt_of_mul-lt-mul_right, mul-pos, zero-mul, arith}
use lib.Ieee.{Float, fin, binary64, add, sub, mul, neg, le, lt, fits}
use lib.Ieee.Fits.{add-fits}
use lib.Ieee.Scale.{finite}
use lib.Ieee.Positive.{den, den_pos}
use Rattle.ieee.specs.Notation.{zero₀, half₀, one₀, two₀, quarter₀}
use Rattle.ieee.specs.Fraction.{plus, less}
use Rattle.ieee.proofs.Laws.Test.{yes, no}
use Rattle.ieee.proofs.Laws.Algebra.{mul-swap, sub_is}
use Rattle.ieee.proofs.Laws.Order.{products, own_val, less_none, le→cross, cross→lt, le→vals, le-trans-float, lt→le, not-lt→le, finite_number, neg-finite, between}
use Rattle.ieee.proofs.Laws.Rounds.{add_rounds}
use Rattle.ieee.proofs.Laws.Held.{rounds-above}
use Rattle.ieee.proofs.Laws.Mono.{add-mono, sub-mono, mul-mono-left, mul-nonneg}
use Rattle.numbers.specs.Whole.{floored, floor_plus, floor_less}
use Rattle.numbers.proofs.Laws.Whole.{floor-next, floor-below}
use Rattle.numbers.proofs.Laws.Part.{floor-plain, part-nonneg, part-below-one}
use Rattle.timing.proofs.Laws.Half.{one-nonneg, one_up, half_is, half-left}
use Rattle.timing.proofs.Laws.Pace.{widest₀, three_halves₀}

-- a fraction and a spacing, as a steady clock has them
pub record Beat (mu w : Float) : Type 0 where
  pub mu-fits : T (fits binary64 mu)
  pub mu-finite : T (finite mu)
  pub mu-low : T (le zero₀ mu)
  pub mu-high : T (lt mu one₀)
  pub w_fits : T (fits binary64 w)
  pub w-finite : T (finite w)
  pub w-low : T (le one₀ w)
  pub w-high : T (le w widest₀)

-- ---- the ends: (1 + 1,050,000) + 262,500
abbrev sum₀ : Float
sum₀ = fin false 1050001 (pos 0)

abbrev push₀ : Float
push₀ = fin false 65625 (pos 2)

abbrev pub farthest₀ : Float
farthest₀ = fin false 1312501 (pos 0)

top-sum : add binary64 one₀ widest₀ ≡ sum₀
unfolding add
top-sum = refl

top-push : mul binary64 widest₀ quarter₀ ≡ push₀
unfolding mul
top-push = refl

top-move : add binary64 sum₀ push₀ ≡ farthest₀
unfolding add
top-move = refl

quarter-of-two : mul binary64 two₀ quarter₀ ≡ half₀
unfolding mul
quarter-of-two = refl

half-of-two : mul binary64 two₀ half₀ ≡ one₀
unfolding mul
half-of-two = refl

less-half : sub binary64 three_halves₀ half₀ ≡ one₀
unfolding sub
less-half = refl

-- ---- the sum mu + w, and w / 4
module _ (mu w : Float) (b : Beat mu w) where
  abbrev sum : Float
  sum = add binary64 mu w

  abbrev q : Float
  q = mul binary64 w quarter₀

  sum-high : T (le sum sum₀)
  sum-high = rw (← top-sum) (add-mono binary64 mu one₀ w widest₀ b.mu-finite tt b.w-finite tt (lt→le mu one₀ b.mu-high) b.w-high)

  -- w ≤ mu + w
  sum_low : T (le w sum)
  sum_low =
      let c = le→cross zero₀ mu tt b.mu-finite b.mu-low in
      rounds-above binary64 w sum (plus w) (less w) (den w) _ _ _ b.w_fits (own_val w b.w-finite) (den_pos w) (mul-pos (den_pos mu) (den_pos w)) (add_rounds binary64 mu w b.mu-finite b.w-finite)
      (slack (plus mu) (less mu) (den mu) (plus w) (less w) (den w) (mul-le-mul_right (den w * den w) (let g : less mu ≤ plus mu = omega arith in g)))
    where
      slack : (P N d Q O b : ℕ) → N * (b * b) ≤ P * (b * b) → Q * (d * b) + (N * b + O * d) * b ≤ (P * b + Q * d) * b + O * (d * b)
      slack P N d Q O b h = simp products (omega arith)

  sum-finite : T (finite sum)
  sum-finite = between w sum sum₀ b.w-finite tt sum_low sum-high

  pub quarter-nonneg : T (le zero₀ q)
  quarter-nonneg = mul-nonneg binary64 w quarter₀ b.w-finite tt (one-nonneg w b.w-low) (unfold le in tt)

  quarter-high : T (le q push₀)
  quarter-high = rw (← top-push) (mul-mono-left binary64 w widest₀ quarter₀ b.w-finite tt tt (unfold le in tt) b.w-high)

  pub quarter-finite : T (finite q)
  quarter-finite = between zero₀ q push₀ tt tt quarter-nonneg quarter-high

  -- w / 2 ≤ w - w / 4
  rest-low : T (le (mul binary64 w half₀) (sub binary64 w q))
  rest-low =
      half-left w q b.w-finite b.w_fits b.w-low quarter-finite
      (rw (mul-swap binary64 w quarter₀, mul-swap binary64 w half₀) (mul-mono-left binary64 quarter₀ half₀ w tt tt b.w-finite (one-nonneg w b.w-low) (unfold le in tt)))

-- ---- v
abbrev pub move : Float → Float → Float → Float
move mu w push = add binary64 (add binary64 mu w) push

module _ (mu w push : Float) (b : Beat mu w) (low : T (le (neg (mul binary64 w quarter₀)) push)) (high : T (le push (mul binary64 w quarter₀))) where
  abbrev v : Float
  v = move mu w push

  push-finite : T (finite push)
  push-finite = let Q = quarter-finite mu w b in between (neg (q mu w b)) push (q mu w b) (neg-finite (q mu w b) Q) Q low high

  move-high : T (le v farthest₀)
  move-high = rw (← top-move) (add-mono binary64 (sum mu w b) sum₀ push push₀ (sum-finite mu w b) tt push-finite tt (sum-high mu w b) (le-trans-float push (q mu w b) push₀ high (quarter-high mu w b)))

  -- w - w / 4 ≤ v
  move-rest : T (le (sub binary64 w (q mu w b)) v)
  move-rest = rw (sub_is binary64 w (q mu w b)) (add-mono binary64 w (sum mu w b) (neg (q mu w b)) push b.w-finite (sum-finite mu w b) (neg-finite (q mu w b) (quarter-finite mu w b)) push-finite (sum_low mu w b) low)

  pub move-low : T (le (mul binary64 w half₀) v)
  move-low = le-trans-float (mul binary64 w half₀) (sub binary64 w (q mu w b)) v (rest-low mu w b) move-rest

  pub move-finite : T (finite v)
  move-finite = between (mul binary64 w half₀) v farthest₀ (half_is w b.w-finite b.w_fits b.w-low).0 tt move-low move-high

  -- v is above 0, as w / 2 is
  pub move-above : T (lt zero₀ v)
  move-above =
      let W = one_up w b.w-finite b.w-low in
      let D = mul-pos (den_pos w) (zero-lt-suc 1) in
      let k = le→vals (mul binary64 w half₀) v (plus w) (less w) (den w * 2) (plus v) (less v) (den v) D (den_pos v) (half_is w b.w-finite b.w_fits b.w-low) (own_val v move-finite) move-low in
      let g : less v < plus v = lt_of_mul-lt-mul_right (den w * 2) (slack (plus w) (less w) (den w * 2) (plus v) (less v) (den v) (mul-pos W.0 (den_pos v)) W.1 k) in
      cross→lt zero₀ v tt move-finite (omega arith)
    where
      slack : (P N D Q O d : ℕ) → 0 < P * d → N ≡ 0 → P * d + O * D ≤ Q * D + N * d → O * D < Q * D
      slack P N D Q O d h z k = let g = simp (z, zero-mul) at k in omega arith

  pub move-nonneg : T (le zero₀ v)
  move-nonneg = lt→le zero₀ v move-above

  -- ---- its whole part, and what is left over it
  pub move-on : floor_less v ≡ 0
  move-on = (floor-plain v move-finite (less_none v move-finite move-nonneg)).1

  pub move-far : floor_plus v ≤ 1312501
  move-far =
      let c = le→cross v farthest₀ move-finite tt move-high in
      let d = den_pos v in
      let f = floor-below v 1312502 move-finite (omega arith) in
      let z = move-on in
      omega arith

  pub left-low : T (le zero₀ (sub binary64 v (floored v)))
  left-low = part-nonneg v move-finite (add-fits binary64 (sum mu w b) push)

  pub left-high : T (lt (sub binary64 v (floored v)) one₀)
  left-high = part-below-one v move-finite (add-fits binary64 (sum mu w b) push) move-nonneg

  -- ---- with a spacing of 3/2 or more it is 1 or more: half of 2 or more is, and below 2 the push is less than 1/2
  move-one : T (le three_halves₀ w) → T (le one₀ v)
  move-one brisk = go (lt w two₀) refl
    where
      go : (d : Bool) → lt w two₀ ≡ d → T (le one₀ v)
      go true e =
          let small : T (le (q mu w b) half₀) = rw (← quarter-of-two) (mul-mono-left binary64 w two₀ quarter₀ b.w-finite tt tt (unfold le in tt) (lt→le w two₀ (yes e))) in
          le-trans-float one₀ (sub binary64 w (q mu w b)) v (rw (← less-half) (sub-mono binary64 three_halves₀ w half₀ (q mu w b) tt b.w-finite tt (quarter-finite mu w b) brisk small)) move-rest
      go false e =
          let above = not-lt→le w two₀ (finite_number w b.w-finite) tt (no e) in
          le-trans-float one₀ (mul binary64 w half₀) v (rw (← half-of-two) (mul-mono-left binary64 two₀ w half₀ tt b.w-finite tt (unfold le in tt) above)) move-low

  -- so the place moves on
  pub move-onward : T (le three_halves₀ w) → 1 ≤ floor_plus v
  move-onward brisk = go (floor_plus v) refl
    where
      slack : (P N d F L : ℕ) → N ≡ 0 → F ≡ 0 → L ≡ 0 → P + L * d < F * d + d + N → 1 * d + N * 1 ≤ P * 1 + 0 * d → ⊥
      slack P N d F L a b c h k = let g = simp (a, b, c, zero-mul) at h in let i = simp (a, zero-mul) at k in omega arith

      go : (n : ℕ) → floor_plus v ≡ n → 1 ≤ n
      go zero e =
          let c = le→cross one₀ v tt move-finite (move-one brisk) in
          let d = den_pos v in
          let f = floor-next v move-finite in
          let z = move-on in
          absurd (slack (plus v) (less v) (den v) (floor_plus v) (floor_less v) (less_none v move-finite move-nonneg) e z f c)
      go (suc n) e = omega arith
