-- C10: each entry of the table is the f32 nearest to the true cosine. One test, computed over the whole table,
-- shows that the cosine lies within less than half of the entry's last place; every other f32 is at least one last
-- place away. Assumes nothing.
use mathlib.Core.Path.{subst}
use mathlib.Core.Bool.{Bool, true, false, ◌&&◌}
use Prim.Native.Nat.{ℕ, suc, ◌+◌, ◌-◌, ◌*◌, ◌^◌, ◌≤◌, ◌<◌}
use native.Mathlib.Nat.{zero-add, mul-pos, mul-le-mul_right, mul-lt-mul_of_pos_right}
use native.Mathlib.Omega.{arith}
use lib.Dec.{T, leb, ltb, leb→le, ltb→lt}
use lib.IntN.{pos, negsuc}
use lib.Pow.{pow_pos}
use lib.Ieee.{Float, nan, inf, fin, binary32, prec, hid, size, lt, fits, of_bits}
use lib.Ieee.Fits.{and_l, and_r}
use lib.Ieee.Scale.{finite}
use lib.Ieee.Positive.{den, den_pos}
use Rattle.ieee.specs.Fraction.{Fraction, plus, less, own}
use Rattle.ieee.proofs.Laws.Order.{products, lt→cross}
use Rattle.cosine.specs.Bits.{cos_bits}
use Rattle.cosine.specs.Table.{cos_list, cos_at}
use Rattle.cosine.specs.Cosine.{Numbers, Cosine, AtLeast, AtMost}
use Rattle.cosine.specs.Nearest.{middle, Nearest}
use Rattle.lists.proofs.Laws.Along.{counted, counted-at}
use Rattle.cosine.proofs.Laws.Rules.{length-cos, cos-rules}
use Rattle.cosine.proofs.Laws.System.{Before, apart}
use Rattle.cosine.proofs.Laws.Doubling.{shown, step, part, double, shown-sound}
use Rattle.cosine.proofs.Laws.Gap.{gap-above, gap_below}

-- ---- q + e / h and q - e / h
abbrev raised : Fraction → ℕ → ℕ → Fraction
raised q h e = record { plus = q.plus * h + e * q.over; less = q.less * h; over = q.over * h }

abbrev lowered : Fraction → ℕ → ℕ → Fraction
lowered q h e = record { plus = q.plus * h; less = q.less * h + e * q.over; over = q.over * h }

-- r is more than 2 e / h above q, so that the middle of q and r is more than e / h above q; and the same below
abbrev Clear : ℕ → ℕ → Fraction → Fraction → Type 0
Clear h e q r = h * (q.plus * r.over + r.less * q.over) + 2 * e * (q.over * r.over) < h * (r.plus * q.over + q.less * r.over)

middle-above : (q r : Fraction) (h e : ℕ) → 0 < q.over → Clear h e q r → Before (raised q h e) (middle q r)
middle-above q r h e Q l = let x = simp products at (mul-lt-mul_of_pos_right l Q) in simp products (omega arith)

middle-below : (q r : Fraction) (h e : ℕ) → 0 < q.over → Clear h e r q → Before (middle q r) (lowered q h e)
middle-below q r h e Q l = let x = simp products at (mul-lt-mul_of_pos_right l Q) in simp products (omega arith)

-- ---- a y that lies within e / h of x is nearest to x, where any other f32 lies more than 2 e / h away
within-nearest : (N : Numbers) (y : N.R) (x : Float) (h e : ℕ) → T (fits binary32 x) → T (finite x) → AtLeast N y (lowered (own x) h e) → AtMost N y (raised (own x) h e)
    → ((z : Float) → T (fits binary32 z) → T (finite z) → T (lt x z) → Clear h e (own x) (own z))
    → ((z : Float) → T (fits binary32 z) → T (finite z) → T (lt z x) → Clear h e (own z) (own x))
    → Nearest N y x
within-nearest N y x h e held number low high a b = record {
  held = held;
  number = number;
  below = λ z f t l k. apart N y (raised (own x) h e) (middle (own x) (own z)) high k (middle-above (own x) (own z) h e (den_pos x) (a z f t l));
  above = λ z f t l k. apart N y (middle (own x) (own z)) (lowered (own x) h e) k low (middle-below (own x) (own z) h e (den_pos x) (b z f t l));
}

-- ---- the test's bound: within `slack` of the `parts` of a last place, which is half of a place
-- less 1/8192 of that half
abbrev parts : ℕ
parts = 2 ^ 14

abbrev slack : ℕ
slack = 2 ^ 13 - 1

-- x's last place is worth 1 / 2^(places x). Nothing is shown of this: `roomy` tests what is needed
unfoldable places : Float → ℕ
places nan = 0
places (inf s) = 0
places (fin s m (pos i)) = 0
places (fin s m (negsuc i)) = suc i + (prec binary32 - size m)

-- x is a whole number of 1 / 2^k, and more than 2^23 of them in size
abbrev roomy : Float → ℕ → Bool
roomy x k = leb (den x) (2 ^ k) && ltb (hid binary32 * den x) ((plus x + less x) * 2 ^ k)

-- the cosine of j lies within e / h of x
abbrev close : ℕ → Float → ℕ → ℕ → Bool
close j x h e = shown 24 true j (plus x * h) (less x * h + e * den x) (den x * h) && shown 24 false j (plus x * h + e * den x) (less x * h) (den x * h)

-- an entry passes if the cosine is within the slack of it, or equals it
abbrev passes_at : ℕ → Float → ℕ → Bool
passes_at j x k = elim (roomy x k) [ true ↦ close j x (2 ^ k * parts) slack | false ↦ close j x 1 0 ]

abbrev entry : ℕ → Float → Bool
entry j x = passes_at j x (places x)

-- ---- what the test says of an entry
-- another f32 lies more than twice the slack away: x + 1 / 2^k ≤ z, so x + 2 slack / (2^k parts) < z
room : (K X W Y : ℕ) → 0 < W → K * X + W ≤ K * Y → K * parts * X + 2 * slack * W < K * parts * Y
room K X W Y W⁺ g = let u = simp products at (mul-le-mul_right parts g) in simp products (omega arith)

-- and where the cosine is x itself, any way off will do
plain : (X W Y : ℕ) → X < Y → 1 * X + 2 * 0 * W < 1 * Y
plain X W Y g = omega arith

module _ (N : Numbers) (cosine : ℕ → N.R) (K : Cosine N cosine) where
  close-low : (j : ℕ) (x : Float) (h e : ℕ) → 0 < h → T (close j x h e) → AtLeast N (cosine j) (lowered (own x) h e)
  close-low j x h e H t = shown-sound N cosine K 24 true j (plus x * h) (less x * h + e * den x) (den x * h) (mul-pos (den_pos x) H) (and_l (shown 24 true j _ _ _) _ t)

  close-high : (j : ℕ) (x : Float) (h e : ℕ) → 0 < h → T (close j x h e) → AtMost N (cosine j) (raised (own x) h e)
  close-high j x h e H t = shown-sound N cosine K 24 false j (plus x * h + e * den x) (less x * h) (den x * h) (mul-pos (den_pos x) H) (and_r (shown 24 true j _ _ _) _ t)

  entry-nearest : (j : ℕ) (x : Float) (k : ℕ) → T (fits binary32 x) → T (finite x) → T (passes_at j x k) → Nearest N (cosine j) x
  entry-nearest j x k f t p = go (roomy x k) (λ r. r) p
    where
      go : (b : Bool) → (T b → T (roomy x k)) → T (elim b [ true ↦ close j x (2 ^ k * parts) slack | false ↦ close j x 1 0 ]) → Nearest N (cosine j) x
      go true r p =
          let h = 2 ^ k * parts in
          let H : 0 < h = mul-pos (pow_pos k) (pow_pos 14) in
          let d = leb→le (den x) (2 ^ k) (and_l (leb (den x) (2 ^ k)) _ (r tt)) in
          let b = ltb→lt (hid binary32 * den x) ((plus x + less x) * 2 ^ k) (and_r (leb (den x) (2 ^ k)) _ (r tt)) in
          within-nearest N (cosine j) x h slack f t (close-low j x h slack H p) (close-high j x h slack H p)
          (λ z f' t' l. room (2 ^ k) _ (den x * den z) _ (mul-pos (den_pos x) (den_pos z)) (gap-above binary32 x z k t t' f' d b l))
          (λ z f' t' l. room (2 ^ k) _ (den z * den x) _ (mul-pos (den_pos z) (den_pos x)) (gap_below binary32 x z k t t' f' d b l))
      go false r p =
          within-nearest N (cosine j) x 1 0 f t (close-low j x 1 0 (pow_pos 0) p) (close-high j x 1 0 (pow_pos 0) p)
          (λ z f' t' l. plain _ (den x * den z) _ (lt→cross x z t t' l))
          (λ z f' t' l. plain _ (den z * den x) _ (lt→cross z x t' t l))

-- ---- the one computation
passes : T (counted entry 0 cos_list)
unfolding cos_list cos_bits of_bits counted shown step part double places size
passes = tt

pub true-cosine : (N : Numbers) (cosine : ℕ → N.R) → Cosine N cosine → (j : ℕ) → j ≤ 4096 → Nearest N (cosine j) (cos_at j)
true-cosine N cosine K j h =
    entry-nearest N cosine K j (cos_at j) (places (cos_at j)) (cos-rules.held j h) (cos-rules.number j h)
    (subst (λ (i : ℕ). T (entry i (cos_at j))) (zero-add j) (counted-at entry nan 0 cos_list passes j (omega (arith, length-cos))))
