-- Half of a spacing w of 1 or more is exact, and what is left of w after at most its half, rounded or not,
-- is at least its half. Assumes nothing.
use Rattle.std.proofs.Common.{◌≡◌, ℕ, suc, ◌+◌, ◌*◌, ◌^◌, ◌<◌, ◌≤◌, Bool, true, false, T, pos, negsuc, sym, le_trans, le_of_eq, lt_of_le_of_lt, le_of_lt, mul-le-mul_right, zero-lt-suc, mul-pos, pow-suc, arith, lit≤, pow_mono}
use lib.Ieee.{Float, fin, binary64, sub, mul, le, fits}
use lib.Ieee.Fits.{mul-fits}
use lib.Ieee.Scale.{finite}
use lib.Ieee.Positive.{den, den_pos}
use Rattle.ieee.specs.Notation.{zero₀, half₀, one₀}
use Rattle.ieee.specs.Fraction.{plus, less, Val}
use Rattle.ieee.proofs.Laws.Order.{products, own_val, le→cross, le→vals, le-trans-float, less_none}
use Rattle.ieee.proofs.Laws.Rounds.{sub_at}
use Rattle.ieee.proofs.Laws.Held.{fits-parts, pow-back, rounds-above}
use Rattle.ieee.proofs.Laws.Exact.{half-exact}

-- ---- a value of 1 or more
pub one-nonneg : (w : Float) → T (le one₀ w) → T (le zero₀ w)
one-nonneg w h = le-trans-float zero₀ one₀ w (unfold le in tt) h

pub one_up : (w : Float) → T (finite w) → T (le one₀ w) → (0 < plus w) × (less w ≡ 0)
one_up w p h =
    let n = less_none w p (one-nonneg w h) in
    let c = le→cross one₀ w tt p h in
    let d = den_pos w in
    (omega arith, n)

-- its last digit stands at 2^-53 or above, so that a half has room
room : (w : Float) → T (finite w) → T (fits binary64 w) → T (le one₀ w) → den w * 2 ≤ 2 ^ 1074
room (fin s m (pos k)) p t h = lit≤ tt
room lib.Ieee.nan p t h = elim p [ ]
room (lib.Ieee.inf _) p t h = elim p [ ]
room (fin s m (negsuc k)) p t h =
    let i : suc k ≤ 53 = pow-back (suc k) 53 (le_of_lt (lt_of_le_of_lt (digits s h) (fits-parts binary64 s m (negsuc k) t).0)) in
    le_trans (le_of_eq (sym (pow-suc 2 (suc k)))) (le_trans (pow_mono {i = suc (suc k)} {j = 54} (omega arith)) (lit≤ tt))
  where
    digits : (s : Bool) → T (le one₀ (fin s m (negsuc k))) → 2 ^ suc k ≤ m
    digits false h = let c = le→cross one₀ (fin false m (negsuc k)) tt tt h in omega arith
    digits true h = let c = le→cross one₀ (fin true m (negsuc k)) tt tt h in omega arith

-- ---- its half
pub half_is : (w : Float) → T (finite w) → T (fits binary64 w) → T (le one₀ w) → Val (mul binary64 w half₀) (plus w) (less w) (den w * 2)
half_is w p t h = half-exact binary64 w p t (room w p t h)

pub half-left : (w q : Float) → T (finite w) → T (fits binary64 w) → T (le one₀ w) → T (finite q) → T (le q (mul binary64 w half₀)) → T (le (mul binary64 w half₀) (sub binary64 w q))
half-left w q W F L Q u =
    let v = half_is w W F L in
    let D = mul-pos (den_pos w) (zero-lt-suc 1) in
    let k = le→vals q (mul binary64 w half₀) (plus q) (less q) (den q) (plus w) (less w) (den w * 2) (den_pos q) D (own_val q Q) v u in
    rounds-above binary64 (mul binary64 w half₀) (sub binary64 w q) (plus w) (less w) (den w * 2) _ _ _ (mul-fits binary64 w half₀) v D (mul-pos (den_pos w) (den_pos q))
    (sub_at binary64 w q (plus w) (less w) (den w) (plus q) (less q) (den q) (den_pos w) (den_pos q) (own_val w W) (own_val q Q))
    (slack (plus w) (less w) (den w) (plus q) (less q) (den q) (mul-le-mul_right (den w) k))
  where
    slack : (P N d Q O b : ℕ) → (Q * (d * 2) + N * b) * d ≤ (P * b + O * (d * 2)) * d → P * (d * b) + (N * b + Q * d) * (d * 2) ≤ (P * b + O * d) * (d * 2) + N * (d * b)
    slack P N d Q O b h =
        let g = simp products at h in
        simp products (omega arith)
