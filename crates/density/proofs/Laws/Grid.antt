-- Multiples of 2^-l that an f64 holds: their sums, differences and products, rounded, keep a bound of that kind, and
-- every value from 0 up lies between two neighbours of them. Assumes nothing.
use mathlib.Core.Path.{refl, subst}
use Prim.Native.Nat.{ℕ, suc, ◌+◌, ◌*◌, ◌/◌, ◌^◌, ◌≤◌, ◌<◌}
use native.Mathlib.Nat.{zero-lt-suc, mul-pos, div-add-mod', mod-lt, le_of_mul-le-mul_right, lt_of_mul-lt-mul_right, suc-mul}
use native.Mathlib.Omega.{arith}
use mathlib.Core.Bool.{false}
use lib.Dec.{T}
use lib.Pow.{pow_pos}
use lib.Ieee.{Float, binary64, le}
use lib.Ieee.Fits.{round-fits}
use lib.Ieee.Scale.{finite}
use lib.Ieee.Positive.{den, den_pos}
use Rattle.ieee.specs.Notation.{◌⊞◌, ◌⊟◌, ◌⊠◌, zero₀, decimal}
use Rattle.ieee.specs.Fraction.{plus, Val}
use Rattle.ieee.proofs.Laws.Order.{own_val, has-val, vals→le, le→vals, le-trans-float, less_none, between}
use Rattle.ieee.proofs.Laws.Rounds.{add_at, sub_at, mul_at}
use Rattle.ieee.proofs.Laws.Held.{rounds-above, rounds-below}
use Rattle.ieee.proofs.Laws.Exact.{parts-exact}

-- n / 2 ^ l, and that an f64 holds it
abbrev pub grid : ℕ → ℕ → Float
grid l n = decimal binary64 n (2 ^ l)

abbrev pub Held : ℕ → ℕ → Type 0
Held l n = (n < 2 ^ 53) × (l ≤ 1074)

pub grid-val : {l n : ℕ} → Held l n → Val (grid l n) n 0 (2 ^ l)
grid-val {l} {n} h = has-val (grid l n) false n (2 ^ l) (parts-exact binary64 n l h.0 h.1 false)

pub grid-nonneg : {l n : ℕ} → Held l n → T (le zero₀ (grid l n))
grid-nonneg {l} {n} h = vals→le zero₀ (grid l n) 0 0 1 n 0 (2 ^ l) (zero-lt-suc 0) (pow_pos l) (tt, refl) (grid-val h) (omega arith)

-- ---- what lies at or above c / 2 ^ k before rounding does so after it
module _ (i a j b k c : ℕ) (A : Held i a) (B : Held j b) (C : Held k c) where
  pub sum_over : c * (2 ^ i * 2 ^ j) ≤ (a * 2 ^ j + b * 2 ^ i) * 2 ^ k → T (le (grid k c) (grid i a ⊞ grid j b))
  sum_over h =
      rounds-above binary64 (grid k c) _ c 0 (2 ^ k) _ _ _ (round-fits binary64 false c (2 ^ k)) (grid-val C) (pow_pos k) (mul-pos (pow_pos i) (pow_pos j))
      (add_at binary64 (grid i a) (grid j b) a 0 (2 ^ i) b 0 (2 ^ j) (pow_pos i) (pow_pos j) (grid-val A) (grid-val B)) (omega arith)

  pub difference-over : c * (2 ^ i * 2 ^ j) + b * 2 ^ i * 2 ^ k ≤ a * 2 ^ j * 2 ^ k → T (le (grid k c) (grid i a ⊟ grid j b))
  difference-over h =
      rounds-above binary64 (grid k c) _ c 0 (2 ^ k) _ _ _ (round-fits binary64 false c (2 ^ k)) (grid-val C) (pow_pos k) (mul-pos (pow_pos i) (pow_pos j))
      (sub_at binary64 (grid i a) (grid j b) a 0 (2 ^ i) b 0 (2 ^ j) (pow_pos i) (pow_pos j) (grid-val A) (grid-val B)) (omega arith)

  -- and what lies at or below it
  pub product-under : a * b * 2 ^ k ≤ c * (2 ^ i * 2 ^ j) → T (le (grid i a ⊠ grid j b) (grid k c))
  product-under h =
      rounds-below binary64 (grid k c) _ c 0 (2 ^ k) _ _ _ (round-fits binary64 false c (2 ^ k)) (grid-val C) (pow_pos k) (mul-pos (pow_pos i) (pow_pos j))
      (mul_at binary64 (grid i a) (grid j b) a 0 (2 ^ i) b 0 (2 ^ j) (pow_pos i) (pow_pos j) (grid-val A) (grid-val B)) (omega arith)

-- ---- x lies from n / 2 ^ l to (n + 1) / 2 ^ l, for an n from lo to hi
pub record Cell (l lo hi : ℕ) (x : Float) : Type 0 where
  pub n : ℕ
  pub least : lo ≤ n
  pub most : n ≤ hi
  pub low : T (le (grid l n) x)
  pub high : T (le x (grid l (suc n)))

-- a / d as a whole number, between the bounds of the quotient
quotient : (a d lo hi : ℕ) → 0 < d → lo * d ≤ a → a ≤ hi * d → let n = a / d in (lo ≤ n) × (n ≤ hi) × (n * d ≤ a) × (a ≤ suc n * d)
quotient a d lo hi D h k =
    let e = div-add-mod' a d in
    let r = mod-lt a D in
    let s = suc-mul (a / d) d in
    let g : lo < suc (a / d) = lt_of_mul-lt-mul_right d (omega arith) in
    (omega arith, le_of_mul-le-mul_right (omega arith) D, omega arith, omega arith)

pub cell : (l lo hi : ℕ) (x : Float) → lo ≤ hi → Held l (suc hi) → T (le (grid l lo) x) → T (le x (grid l hi)) → Cell l lo hi x
cell l lo hi x o H h k =
    let L : Held l lo = (omega arith, H.1) in
    let U : Held l hi = (omega arith, H.1) in
    let p : T (finite x) = between (grid l lo) x (grid l hi) (grid-val L).0 (grid-val U).0 h k in
    let z = less_none x p (le-trans-float zero₀ (grid l lo) x (grid-nonneg L) h) in
    let X : Val x (plus x) 0 (den x) = subst (λ (n : ℕ). Val x (plus x) n (den x)) z (own_val x p) in
    let u = le→vals (grid l lo) x lo 0 (2 ^ l) (plus x) 0 (den x) (pow_pos l) (den_pos x) (grid-val L) X h in
    let v = le→vals x (grid l hi) (plus x) 0 (den x) hi 0 (2 ^ l) (den_pos x) (pow_pos l) X (grid-val U) k in
    let n = plus x * 2 ^ l / den x in
    let q = quotient (plus x * 2 ^ l) (den x) lo hi (den_pos x) (omega arith) (omega arith) in
    record {
      n = n;
      least = q.0;
      most = q.1;
      low = vals→le (grid l n) x n 0 (2 ^ l) (plus x) 0 (den x) (pow_pos l) (den_pos x) (grid-val (let m = q.1 in omega arith, H.1)) X (let m = q.2 in omega arith);
      high = vals→le x (grid l (suc n)) (plus x) 0 (den x) (suc n) 0 (2 ^ l) (den_pos x) (pow_pos l) X (grid-val (let m = q.1 in omega arith, H.1)) (let m = q.3 in omega arith);
    }
