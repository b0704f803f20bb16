-- A tie goes to the even one: from 2 ^ (prec - 1) up, a whole number that the format holds with a digit to spare
-- is what all within a half of it rounds to. Assumes nothing.
use mathlib.Core.Path.{◌≡◌, sym, ap, ◌∙◌, subst}
use Prim.Native.Nat.{ℕ, zero, suc, ◌+◌, ◌-◌, ◌*◌, ◌/◌, ◌%◌, ◌^◌, ◌≤◌, ◌<◌, compare, Ordering}
use native.Mathlib.Nat.{le_of_eq, le_trans, lt_of_lt_of_le, not-le_of_lt, lt_of_not-le, mul-one, mul_comm, mul_assoc, mul_left_comm, mul-pos, pow-succ', mul-le-mul_right, mul-lt-mul_of_pos_right, lt_of_mul-lt-mul_right, div-add-mod', mod-lt, le-div_iff_mul-le}
use native.Mathlib.Omega.{arith}
use mathlib.Core.Bool.{Bool, true, false}
use lib.Pow.{pow-add, pow_pos, pow_mono}
use lib.Ieee.{Format, prec, emax, low, size, nearest, round}
use lib.Ieee.Digits.{size-lt}
use lib.Ieee.Fits.{two}
use lib.Ieee.Exact.{HasValue}
use lib.Ieee.Nearest.{closest}
use lib.Ieee.Order.{drop, kept}
use lib.Ieee.Scale.{grid, round_val}
use Rattle.ieee.proofs.Laws.Test.{Compared, compared}
use Rattle.ieee.proofs.Laws.Round.{round-neg, neg_value}
use Rattle.ieee.proofs.Laws.Error.{drop_le}
use Rattle.ieee.proofs.Laws.Exact.{same-value}

-- an even q is the nearest to all within a half of it
closest-even : (a b q : ℕ) → 0 < b → q % 2 ≡ 0 → 2 * a ≤ 2 * (q * b) + b → 2 * (q * b) ≤ 2 * a + b → closest a b ≡ q
closest-even a b q B ev hi lo = go (a / b) (a % b) (compare (a % b * 2) b) (compared (a % b * 2) b) (div-add-mod' a b) (mod-lt a B)
  where
    go : (Q r : ℕ) (o : Ordering) → Compared o (r * 2) b → Q * b + r ≡ a → r < b → nearest Q o ≡ q
    go Q r Ordering.lt h e l =
        let x : q < Q + 1 = lt_of_mul-lt-mul_right b (omega arith) in
        let y : Q < q + 1 = lt_of_mul-lt-mul_right b (omega arith) in
        omega arith
    go Q r Ordering.eq h e l =
        let x : q < Q + 2 = lt_of_mul-lt-mul_right b (omega arith) in
        let y : Q < q + 1 = lt_of_mul-lt-mul_right b (omega arith) in
        omega arith
    go Q r Ordering.gt h e l =
        let x : q < Q + 2 = lt_of_mul-lt-mul_right b (omega arith) in
        let y : Q < q = lt_of_mul-lt-mul_right b (omega arith) in
        omega arith

-- a fraction from 2 ^ (p - 1 + j) up loses its last j digits at least
drop-ge : (p n c j : ℕ) → 0 < p → 0 < c → 2 ^ (p - 1 + j) * c ≤ n → j ≤ drop p n c
drop-ge p n c j P C h =
    let k : p - 1 + j < size (n / c) = lt_of_not-le (λ (g : size (n / c) ≤ p - 1 + j). not-le_of_lt (lt_of_lt_of_le (size-lt (n / c)) (pow_mono g)) ((le-div_iff_mul-le C).1 h)) in
    omega arith

-- n / c within a half of m * 2 ^ (i + 1), both counted in units of which 2 ^ l are 1
module _ (p n c m i l : ℕ) (P : 0 < p) (C : 0 < c) (few : m < 2 ^ (p - 1)) (least : 2 ^ (p - 1 + l) * c ≤ n)
    (hi : 2 * n ≤ 2 * (m * (2 ^ suc i * 2 ^ l) * c) + 2 ^ l * c) (lo : 2 * (m * (2 ^ suc i * 2 ^ l) * c) ≤ 2 * n + 2 ^ l * c) where
  below : n < 2 ^ (p + (i + l)) * c
  below = subst (λ (z : ℕ). n < z * c) power (bound (2 ^ (p - 1)) (2 ^ suc i) (2 ^ l) few (pow_pos (suc i)) (pow_pos l) hi)
    where
      bound : (H I L : ℕ) → m < H → 0 < I → 0 < L → 2 * n ≤ 2 * (m * (I * L) * c) + L * c → n < H * (I * L) * c
      bound H I L h k g u =
          let x = mul-le-mul_right (I * L * c) h in
          let y = mul-le-mul_right (L * c) k in
          let z = mul-pos g C in
          omega arith

      power : 2 ^ (p - 1) * (2 ^ suc i * 2 ^ l) ≡ 2 ^ (p + (i + l))
      power = ap (λ (z : ℕ). 2 ^ (p - 1) * z) (sym (pow-add 2 (suc i) l)) ∙ sym (pow-add 2 (p - 1) (suc i + l)) ∙ ap (λ (z : ℕ). 2 ^ z) (omega arith)

  kept-even : kept p n c * 2 ^ drop p n c ≡ m * (2 ^ suc i * 2 ^ l)
  kept-even =
      let k = drop p n c in
      let K : l ≤ k = drop-ge p n c l P C least in
      let J : k ≤ i + l = drop_le p n c (i + l) C below in
      let j = i + l - k in
      let w : 2 ^ suc j * 2 ^ k ≡ 2 ^ suc i * 2 ^ l = sym (pow-add 2 (suc j) k) ∙ ap (λ (z : ℕ). 2 ^ z) (omega arith) ∙ pow-add 2 (suc i) l in
      let u : m * 2 ^ suc j * 2 ^ k ≡ m * (2 ^ suc i * 2 ^ l) = mul_assoc m (2 ^ suc j) (2 ^ k) ∙ ap (λ (z : ℕ). m * z) w in
      ap (λ (z : ℕ). z * 2 ^ k)
      (closest-even n (c * 2 ^ k) (m * 2 ^ suc j) (mul-pos C (pow_pos k)) (even m j)
      (over (m * 2 ^ suc j) (2 ^ k) (m * (2 ^ suc i * 2 ^ l)) (2 ^ l) u (pow_mono K) hi)
      (under (m * 2 ^ suc j) (2 ^ k) (m * (2 ^ suc i * 2 ^ l)) (2 ^ l) u (pow_mono K) lo))
      ∙ u
    where
      even : (m j : ℕ) → m * 2 ^ suc j % 2 ≡ 0
      even m j = ap (λ (z : ℕ). z % 2) (ap (λ (z : ℕ). m * z) (pow-succ' 2 j) ∙ mul_left_comm m 2 (2 ^ j)) ∙ omega arith

      over : (q K M L : ℕ) → q * K ≡ M → L ≤ K → 2 * n ≤ 2 * (M * c) + L * c → 2 * n ≤ 2 * (q * (c * K)) + c * K
      over q K M L e h g =
          let x = ap (λ (z : ℕ). z * c) e in
          let y = mul-le-mul_right c h in
          omega arith

      under : (q K M L : ℕ) → q * K ≡ M → L ≤ K → 2 * (M * c) ≤ 2 * n + L * c → 2 * (q * (c * K)) ≤ 2 * n + c * K
      under q K M L e h g =
          let x = ap (λ (z : ℕ). z * c) e in
          let y = mul-le-mul_right c h in
          omega arith

-- a / c from 2 ^ (prec - 1) up, within a half of m * 2 ^ (i + 1), in the format's smallest values
grid-even : (f : Format) (a c m i : ℕ) → 0 < c → m < 2 ^ (prec f - 1) → 2 ^ (prec f - 1) * c ≤ a → 2 * a ≤ 2 * (m * 2 ^ suc i * c) + c → 2 * (m * 2 ^ suc i * c) ≤ 2 * a + c
    → grid f a c ≡ m * 2 ^ suc i * 2 ^ low f
grid-even f a c m i C few least hi lo =
    kept-even (prec f) (a * 2 ^ low f) c m i (low f) (let t = two f in omega arith) C few
    (le_trans (le_of_eq (ap (λ (z : ℕ). z * c) (pow-add 2 (prec f - 1) (low f)))) (scale (2 ^ (prec f - 1)) (2 ^ low f) least))
    (over (2 ^ suc i) (2 ^ low f) hi) (under (2 ^ suc i) (2 ^ low f) lo)
    ∙ sym (mul_assoc m (2 ^ suc i) (2 ^ low f))
  where
    scale : (H l : ℕ) → H * c ≤ a → H * l * c ≤ a * l
    scale H l h = let x = mul-le-mul_right l h in omega arith

    over : (I l : ℕ) → 2 * a ≤ 2 * (m * I * c) + c → 2 * (a * l) ≤ 2 * (m * (I * l) * c) + l * c
    over I l h = let x = mul-le-mul_right l h in omega arith

    under : (I l : ℕ) → 2 * (m * I * c) ≤ 2 * a + c → 2 * (m * (I * l) * c) ≤ 2 * (a * l) + l * c
    under I l h = let x = mul-le-mul_right l h in omega arith

-- a / c from 2 ^ (prec - 1) up rounds to an m * 2 ^ i that lies within a half, if m has fewer than prec digits
pub round-even : (f : Format) (s : Bool) (a c m i : ℕ) → 0 < c → m < 2 ^ (prec f - 1) → 2 ^ (prec f - 1) * c ≤ a → 2 * a ≤ 2 * (m * 2 ^ i * c) + c → 2 * (m * 2 ^ i * c) ≤ 2 * a + c
    → m * 2 ^ i < 2 ^ suc (emax f) → HasValue (round f s a c) s (m * 2 ^ i) 1
round-even f s a c m zero C few least hi lo top = absurd (none (2 ^ (prec f - 1)) few least)
  where
    none : (H : ℕ) → m < H → H * c ≤ a → ⊥
    none H h k = let x = mul-le-mul_right c h in omega arith
round-even f s a c m (suc i) C few least hi lo top = sign s
  where
    plain : HasValue (round f false a c) false (m * 2 ^ suc i) 1
    plain =
        let M = m * 2 ^ suc i in
        let l = low f in
        let is : grid f a c ≡ M * 2 ^ l = grid-even f a c m i C few least hi lo in
        same-value (round f false a c) false (M * 2 ^ l) (2 ^ l) M 1 (pow_pos l) (mul-one (M * 2 ^ l))
        (subst (λ (z : ℕ). HasValue (round f false a c) false z (2 ^ l)) is
        (round_val f a c (subst (λ (z : ℕ). z < 2 ^ (l + suc (emax f))) (sym is) (lt_of_lt_of_le (mul-lt-mul_of_pos_right top (pow_pos l)) (le_of_eq (mul_comm (2 ^ suc (emax f)) (2 ^ l) ∙ sym (pow-add 2 l (suc (emax f)))))))))

    sign : (s : Bool) → HasValue (round f s a c) s (m * 2 ^ suc i) 1
    sign false = plain
    sign true = rw (round-neg f false a c) (neg_value (round f false a c) (m * 2 ^ suc i) 1 plain)
