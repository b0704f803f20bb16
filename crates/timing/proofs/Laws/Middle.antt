-- The middle's place, half a spacing back of a strobe: the whole part of mu - w / 2 lies in -525,000 to 0.
-- Back of the strobe that a move v leads to, it lies no farther back than v's whole part:
-- the middle does not come before the strobe that was left. Assumes nothing.
use Rattle.std.proofs.Common.{◌≡◌, ℕ, ◌+◌, ◌*◌, ◌/◌, ◌%◌, ◌<◌, ◌≤◌, true, false, T, pos, sym, refl, ap, ◌∙◌, subst, inl, inr, zero-lt-suc, mul_assoc, add-mul, lt_of_mul-lt-mul_right, mul-lt-mul_of_pos_right, mul-pos, div-add-mod', arith}
use lib.Ieee.{Float, fin, binary64, sub, mul, neg, le, fits}
use lib.Ieee.Fits.{neg-fits}
use lib.Ieee.Scale.{finite}
use lib.Ieee.Positive.{den, den_pos}
use Rattle.ieee.specs.Notation.{zero₀, half₀, one₀}
use Rattle.ieee.specs.Fraction.{plus, less, Val}
use Rattle.ieee.proofs.Laws.Order.{products, own_val, less_none, le→cross, lt→cross, le→vals, le-refl-float, finite_number, between, neg-val}
use Rattle.ieee.proofs.Laws.Rounds.{sub_at}
use Rattle.ieee.proofs.Laws.Held.{rounds-above}
use Rattle.ieee.proofs.Laws.Exact.{minus-zero}
use Rattle.ieee.proofs.Laws.Mono.{sub-mono, mul-mono-left, mul-nonneg}
use Rattle.numbers.specs.Whole.{floored, floor_plus, floor_less}
use Rattle.numbers.proofs.Laws.Whole.{floor-is, floor-fits, floor-one-side, floor-below, floor-least}
use Rattle.numbers.proofs.Laws.Part.{floor-plain, part-is}
use Rattle.timing.proofs.Laws.Half.{one-nonneg, half_is}
use Rattle.timing.proofs.Laws.Pace.{widest₀}
use Rattle.timing.proofs.Laws.Step.{Beat}

-- ---- from any steady clock
-- 525,000
abbrev back₀ : Float
back₀ = fin false 65625 (pos 3)

top-half : mul binary64 widest₀ half₀ ≡ back₀
unfolding mul
top-half = refl

top_back : sub binary64 zero₀ back₀ ≡ fin true 65625 (pos 3)
unfolding sub
top_back = refl

module _ (mu w : Float) (b : Beat mu w) where
  abbrev h : Float
  h = mul binary64 w half₀

  abbrev mid : Float
  mid = sub binary64 mu h

  half-finite : T (finite h)
  half-finite = (half_is w b.w-finite b.w_fits b.w-low).0

  half-nonneg : T (le zero₀ h)
  half-nonneg = mul-nonneg binary64 w half₀ b.w-finite tt (one-nonneg w b.w-low) (unfold le in tt)

  half_high : T (le h back₀)
  half_high = rw (← top-half) (mul-mono-left binary64 w widest₀ half₀ b.w-finite tt tt (unfold le in tt) b.w-high)

  mid-low : T (le (fin true 65625 (pos 3)) mid)
  mid-low = rw (← top_back) (sub-mono binary64 zero₀ mu back₀ h tt b.mu-finite tt half-finite b.mu-low half_high)

  mid-high : T (le mid mu)
  mid-high =
      subst (λ (x : Float). T (le mid x)) (minus-zero binary64 mu b.mu-fits)
      (sub-mono binary64 mu mu h zero₀ b.mu-finite b.mu-finite half-finite tt (le-refl-float mu (finite_number mu b.mu-finite)) half-nonneg)

  pub mid-finite : T (finite mid)
  mid-finite = between (fin true 65625 (pos 3)) mid mu tt b.mu-finite mid-low mid-high

  -- mid ≤ mu < 1
  below_one : plus mid < less mid + 1 * den mid
  below_one =
      slack (plus mid) (less mid) (den mid) (plus mu) (less mu) (den mu) (den_pos mid)
      (le→cross mid mu mid-finite b.mu-finite mid-high) (lt→cross mu one₀ b.mu-finite tt b.mu-high)
    where
      slack : (p n d P N D : ℕ) → 0 < d → p * D + N * d ≤ P * d + n * D → P * 1 + 0 * D < 1 * D + N * 1 → p < n + 1 * d
      slack p n d P N D z k l =
          let m : P * d < (D + N) * d = mul-lt-mul_of_pos_right (omega arith) z in
          let x = simp products at m in
          let y = simp products at k in
          lt_of_mul-lt-mul_right D (let g : D * p < D * (n + 1 * d) = simp products (omega arith) in simp products (simp products at g))

  pub mid_back : floor_plus mid ≡ 0
  mid_back = let f = floor-below mid 1 mid-finite below_one in elim (floor-one-side mid) [ inl e ↦ e | inr e ↦ omega arith ]

  pub mid-near : floor_less mid ≤ 525000
  mid-near =
      let z = mid_back in
      let c = le→cross (fin true 65625 (pos 3)) mid tt mid-finite mid-low in
      let f = floor-least mid 525000 mid-finite (omega arith) in
      omega arith

-- ---- after a move v of at least w / 2
module _ (v w : Float) (p : T (finite v)) (t : T (fits binary64 v)) (from : T (le zero₀ v)) (b : Beat (sub binary64 v (floored v)) w) (far : T (le (mul binary64 w half₀) v)) where
  abbrev part : Float
  part = sub binary64 v (floored v)

  abbrev next : Float
  next = sub binary64 part (mul binary64 w half₀)

  -- minus the whole part
  back_is : Val (neg (floored v)) 0 (floor_plus v) 1
  back_is = subst (λ (n : ℕ). Val (neg (floored v)) n (floor_plus v) 1) (floor-plain v p (less_none v p from)).1 (neg-val (floored v) (floor_plus v) (floor_less v) 1 (floor-is v p t))

  next_low : T (le (neg (floored v)) next)
  next_low =
      let H = half-finite part w b in
      let k = mul binary64 w half₀ in
      rounds-above binary64 (neg (floored v)) next 0 (floor_plus v) 1 _ _ _ (neg-fits binary64 (floored v) (floor-fits v t)) back_is (zero-lt-suc 0) (mul-pos (den_pos v) (den_pos k))
      (sub_at binary64 part k (plus v % den v) 0 (den v) (plus k) (less k) (den k) (den_pos v) (den_pos k) (part-is v p t from) (own_val k H))
      (slack (plus v) (less v) (den v) (floor_plus v) (plus k) (less k) (den k) (less_none v p from) (floor-plain v p (less_none v p from)).0 (le→cross k v H p far))
    where
      slack : (a l c q P N d : ℕ) → l ≡ 0 → q ≡ a / c → P * c + l * d ≤ a * d + N * c → 0 * (c * d) + (0 * d + P * c) * 1 ≤ (a % c * d + N * c) * 1 + q * (c * d)
      slack a l c q P N d z e g =
          let f : q * c + a % c ≡ a = ap (λ (x : ℕ). x * c + a % c) e ∙ div-add-mod' a c in
          let x : q * (c * d) + a % c * d ≡ a * d = ap (λ (z : ℕ). z + a % c * d) (sym (mul_assoc q c d)) ∙ sym (add-mul (q * c) (a % c) d) ∙ ap (λ (z : ℕ). z * d) f in
          omega arith

  pub next-near : floor_less next ≤ floor_plus v
  next-near =
      let N = mid-finite part w b in
      let z = mid_back part w b in
      let c = le→vals (neg (floored v)) next 0 (floor_plus v) 1 (plus next) (less next) (den next) (zero-lt-suc 0) (den_pos next) back_is (own_val next N) next_low in
      let f = floor-least next (floor_plus v) N (omega arith) in
      omega arith
