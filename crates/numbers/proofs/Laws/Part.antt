-- What is left of x over its floor: for x from 0 up the difference is exact and lies from 0 to below 1;
-- below zero it is rounded and lies in 0 to 1, both included. Assumes nothing.
use mathlib.Core.Path.{◌≡◌, refl, sym, ap, subst}
use mathlib.Core.Logic.{inr}
use Prim.Native.Nat.{ℕ, suc, ◌+◌, ◌-◌, ◌*◌, ◌/◌, ◌%◌, ◌^◌, ◌≤◌, ◌<◌}
use native.Mathlib.Nat.{add-zero, le_trans, le_of_eq, lt_of_le_of_lt, zero-lt-suc, mul-one, div-add-mod', mod-lt, mod-one, mod-le, zero-mod, zero-div, div-lt_iff_lt-mul, mul-pos, mul-le-mul_right}
use native.Mathlib.Omega.{arith}
use mathlib.Core.Bool.{true, false}
use lib.IntN.{pos, negsuc}
use lib.Dec.{T, lit<}
use lib.Pow.{pow_pos}
use lib.Ieee.{Float, fin, binary64, up, down, round, sub, le, lt, fits}
use lib.Ieee.Fits.{down_pos}
use lib.Ieee.Exact.{HasValue}
use lib.Ieee.Scale.{finite}
use lib.Ieee.Positive.{den, den_pos}
use Rattle.ieee.specs.Notation.{zero₀, one₀}
use Rattle.ieee.specs.Fraction.{plus, less, Val, Exact}
use Rattle.ieee.specs.Rounding.{Rounds}
use Rattle.ieee.proofs.Laws.Order.{less_none, own_val, vals→lt}
use Rattle.ieee.proofs.Laws.Rounds.{rounds-same, sub_at}
use Rattle.ieee.proofs.Laws.Held.{fits-parts, on-grid, rounds-above, rounds-below}
use Rattle.ieee.proofs.Laws.Exact.{rounds-one-sided, zero-exact}
use Rattle.numbers.specs.Whole.{floored, floor_plus, floor_less}
use Rattle.numbers.proofs.Laws.Whole.{floor-is, floor-under, floor-next}

-- ---- x - floored x, of the fractions
difference : (x : Float) → T (finite x) → T (fits binary64 x)
    → Rounds binary64 (sub binary64 x (floored x)) (plus x * 1 + floor_less x * den x) (less x * 1 + floor_plus x * den x) (den x * 1)
difference x p t = sub_at binary64 x (floored x) (plus x) (less x) (den x) (floor_plus x) (floor_less x) 1 (den_pos x) (zero-lt-suc 0) (own_val x p) (floor-is x p t)

-- either way it lies in 0 to 1; of x = -2^-60 it is 1 - 2^-60, which rounds to 1
pub part_in : (x : Float) → T (finite x) → T (fits binary64 x) → T (le zero₀ (sub binary64 x (floored x))) × T (le (sub binary64 x (floored x)) one₀)
part_in x p t =
    let r = difference x p t in
    let C : 0 < den x * 1 = mul-pos (den_pos x) (zero-lt-suc 0) in
    let lo = floor-under x p in
    let hi = floor-next x p in (
      rounds-above binary64 zero₀ _ 0 0 1 _ _ _ (unfold fits in tt) (tt, refl) (zero-lt-suc 0) C r (omega arith),
      rounds-below binary64 one₀ _ 1 0 1 _ _ _ (unfold fits in tt) (tt, refl) (zero-lt-suc 0) C r (omega arith),
    )

-- ---- from 0 up, a zero with a minus sign included
pub floor-plain : (x : Float) → T (finite x) → less x ≡ 0 → (floor_plus x ≡ plus x / den x) × (floor_less x ≡ 0)
floor-plain (fin false m e) p h = (refl, refl)
floor-plain (fin true m e) p h =
    let c = down e in
    let C = down_pos e in
    let k : (m * up e + (c - 1)) / c < 1 = (div-lt_iff_lt-mul C).1 (omega arith) in
    (sym (zero-div c), omega arith)
floor-plain lib.Ieee.nan p h = elim p [ ]
floor-plain (lib.Ieee.inf _) p h = elim p [ ]

-- the fraction of a value that the format holds is held too
part-exact : (x : Float) → T (finite x) → T (fits binary64 x) → Exact binary64 (plus x % den x) (den x)
part-exact (fin true m e) p t s = rw (zero-mod (down e)) (zero-exact binary64 (down e) (down_pos e) s)
part-exact (fin false m (pos k)) p t s = rw (mod-one (m * 2 ^ k)) (on-grid binary64 s 0 (pos 0) (pow_pos 53) (pow_pos 1074) (lit< tt))
part-exact (fin false m (negsuc k)) p t s =
    let h = fits-parts binary64 false m (negsuc k) t in
    let r = m * 1 % 2 ^ suc k in
    let l : r ≤ m = le_trans (mod-le (m * 1) (2 ^ suc k)) (le_of_eq (mul-one m)) in
    subst (λ (z : ℕ). HasValue (round binary64 s z (2 ^ suc k)) s z (2 ^ suc k)) (mul-one r) (on-grid binary64 s r (negsuc k) (lt_of_le_of_lt l h.0) h.1 (lt_of_le_of_lt (mul-le-mul_right 1 l) h.2))
part-exact lib.Ieee.nan p t s = elim p [ ]
part-exact (lib.Ieee.inf _) p t s = elim p [ ]

same-part : (P N d A B : ℕ) → N ≡ 0 → A ≡ P / d → B ≡ 0 → (P * 1 + B * d) * d + 0 * (d * 1) ≡ P % d * (d * 1) + (N * 1 + A * d) * d
same-part P N d A B n a b =
    let h = ap (λ (z : ℕ). z * d) (div-add-mod' P d) in
    simp (n, a, b) (omega arith)

pub part-is : (x : Float) → T (finite x) → T (fits binary64 x) → T (le zero₀ x) → Val (sub binary64 x (floored x)) (plus x % den x) 0 (den x)
part-is x p t h =
    let n = less_none x p h in
    let f = floor-plain x p n in
    rounds-one-sided binary64 (sub binary64 x (floored x)) (plus x % den x) 0 (den x) (inr refl) (rw (add-zero (plus x % den x)) (part-exact x p t))
    (rounds-same binary64 (sub binary64 x (floored x)) _ _ _ (plus x % den x) 0 (den x) (mul-pos (den_pos x) (zero-lt-suc 0)) (den_pos x)
    (same-part (plus x) (less x) (den x) (floor_plus x) (floor_less x) n f.0 f.1) (difference x p t))

pub part-nonneg : (x : Float) → T (finite x) → T (fits binary64 x) → T (le zero₀ (sub binary64 x (floored x)))
part-nonneg x p t = (part_in x p t).0

pub part-below-one : (x : Float) → T (finite x) → T (fits binary64 x) → T (le zero₀ x) → T (lt (sub binary64 x (floored x)) one₀)
part-below-one x p t h = vals→lt _ one₀ _ 0 (den x) 1 0 1 (part-is x p t h) (tt, refl) (let k = mod-lt (plus x) (den_pos x) in omega arith)
