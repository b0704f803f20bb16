-- Floor by rounding: for |x| < 2^52, 2^52 added to x and taken off again leaves a whole number beside x,
-- and from that one the floor is a comparison away. Assumes nothing.
use mathlib.Core.Path.{◌≡◌, refl, sym, ap, ◌∙◌, subst}
use mathlib.Core.Logic.{◌⊎◌, inl, inr}
use Prim.Native.Nat.{ℕ, suc, ◌+◌, ◌*◌, ◌^◌, ◌≤◌, ◌<◌}
use native.Mathlib.Nat.{lt_irrefl, le_of_eq, zero-lt-suc, mul-le-mul_right, mul-pos, lt_of_mul-lt-mul_right}
use native.Mathlib.Omega.{arith}
use mathlib.Core.Bool.{Bool, true, false, not, cond}
use lib.IntN.{pos}
use lib.Dec.{T, T_not, lit<}
use lib.Ieee.{Float, fin, binary64, round, add, sub, neg, le, lt, eq, fits}
use lib.Ieee.Fits.{add-fits}
use lib.Ieee.Scale.{finite}
use lib.Ieee.Positive.{den, den_pos}
use Rattle.ieee.specs.Notation.{zero₀, one₀}
use Rattle.ieee.specs.Fraction.{plus, less, Val}
use Rattle.ieee.specs.Rounding.{Rounds}
use Rattle.ieee.proofs.Laws.Compare.{eq_swap}
use Rattle.ieee.proofs.Laws.Order.{own_val, vals→le, le→vals, lt→vals, le→cross, lt→cross, not-lt→le, finite_number, between, neg-val, les→eq, eq→cross, val_same, inside-finite}
use Rattle.ieee.proofs.Laws.Round.{round-zero}
use Rattle.ieee.proofs.Laws.Rounds.{add_at}
use Rattle.ieee.proofs.Laws.Held.{rounds-above, rounds-below, no_fraction}
use Rattle.numbers.specs.Whole.{floored, floor_plus, floor_less, far, Beside, same, under, over}
use Rattle.ieee.proofs.Laws.Test.{order}
use Rattle.ieee.proofs.Laws.Exact.{minus-zero, whole-held, rounds-whole}
use Rattle.ieee.proofs.Laws.Unique.{same-data}
use Rattle.ieee.proofs.Laws.Cancel.{cancels}
use Rattle.numbers.proofs.Laws.Whole.{floor-is, floor-finite, floor-fits, floor-under, floor-next, floor-near, next-is, floor-lt-next, whole-floor}

-- x with g added and taken off again
abbrev around : Float → Float → Float
around x g = add binary64 (add binary64 x g) (neg g)

-- a - b and a - b + 1 are both 2^52 or more in size
abbrev pub Out : ℕ → ℕ → Type 0
Out a b = (2 ^ 52 + b ≤ a) ⊎ (a + 1 + 2 ^ 52 ≤ b)

-- z is (p - n) / c rounded, which lies from a - b up to a - b + u, for a u of 0 or 1.
-- Where these are 2^52 or more in size, z is the one or the other.
pub lands : (z : Float) (p n c a b u : ℕ) → 0 < c → T (fits binary64 z) → Rounds binary64 z p n c → u ≤ 1 → a * c + n ≤ p + b * c → p + b * c ≤ (a + u) * c + n
    → Out a b → a < b + 2 ^ 53 → b ≤ a + 2 ^ 53 → Val z a b 1 ⊎ ((u ≡ 1) × Val z (suc a) b 1)
lands z p n c a b u C t r U h k out top low =
    let y = whole-held binary64 a b (omega arith) (omega arith) in
    let y' = whole-held binary64 (a + u) b (omega arith) (omega arith) in
    let l = rounds-above binary64 y.0 z a b 1 p n c y.1 y.2 (zero-lt-suc 0) C r (omega arith) in
    let g = rounds-below binary64 y'.0 z (a + u) b 1 p n c y'.1 y'.2 (zero-lt-suc 0) C r (omega arith) in
    let f = between y.0 z y'.0 y.2.0 y'.2.0 l g in
    let above = le→vals y.0 z a b 1 _ _ (den z) (zero-lt-suc 0) (den_pos z) y.2 (own_val z f) l in
    let below = le→vals z y'.0 _ _ (den z) (a + u) b 1 (den_pos z) (zero-lt-suc 0) (own_val z f) y'.2 g in
    let w = no_fraction binary64 z f t (let s = size (plus z) (less z) (den z) above below out in omega arith) in
    let q = w.0 in
    let o = w.1 in
    let v = w.2 in
    pick q o v (le→vals y.0 z a b 1 q o 1 (zero-lt-suc 0) (zero-lt-suc 0) y.2 v l) (le→vals z y'.0 q o 1 (a + u) b 1 (zero-lt-suc 0) (zero-lt-suc 0) v y'.2 g)
  where
    size : (P N d : ℕ) → a * d + N * 1 ≤ P * 1 + b * d → P * 1 + b * d ≤ (a + u) * d + N * 1 → Out a b → 2 ^ 52 * d ≤ P + N
    size P N d h k (inl o) = let g = mul-le-mul_right d o in omega arith
    size P N d h k (inr o) = let g = mul-le-mul_right d o in let i = mul-le-mul_right d U in omega arith

    pick : (q o : ℕ) → Val z q o 1 → a * 1 + o * 1 ≤ q * 1 + b * 1 → q * 1 + b * 1 ≤ (a + u) * 1 + o * 1 → Val z a b 1 ⊎ ((u ≡ 1) × Val z (suc a) b 1)
    pick q o v h k = elim (order (a + o) (q + b)) [
      | inl l ↦ inr (omega arith, val_same z q o 1 (suc a) b (omega arith) v)
      | inr l ↦ inl (val_same z q o 1 a b (omega arith) v)
    ]

-- a floor of 0 under a number with a fraction is +0
floor-zero : (x : Float) → T (finite x) → T (fits binary64 x) → T (lt (floored x) x) → floor_plus x ≡ floor_less x → floored x ≡ zero₀
floor-zero (fin false m e) p t l h = unfold floored in (ap (λ (z : ℕ). round binary64 false z 1) h ∙ round-zero binary64 false 1 (zero-lt-suc 0))
floor-zero (fin true m e) p t l h =
    let x = fin true m e in
    let k = lt→vals (floored x) x _ _ 1 _ _ (den x) (zero-lt-suc 0) (den_pos x) (floor-is x p t) (own_val x p) l in
    let g = ap (λ (z : ℕ). z * den x) h in
    absurd (lt_irrefl 0 (omega arith))
floor-zero lib.Ieee.nan p t l h = elim p [ ]
floor-zero (lib.Ieee.inf _) p t l h = elim p [ ]

-- two orders that cannot both be
apart : (y z : Float) → T (finite y) → T (finite z) → T (lt y z) → T (lt z y) → ⊥
apart y z p q h k = let a = lt→cross y z p q h in let b = lt→cross z y q p k in lt_irrefl 0 (omega arith)

unequal : (y z : Float) → T (finite y) → T (finite z) → T (lt y z) → T (eq y z) → ⊥
unequal y z p q h k = let a = lt→cross y z p q h in let b = eq→cross y z p q k in lt_irrefl 0 (omega arith)

module _ (x : Float) (t : T (fits binary64 x)) (lo : T (lt (neg far) x)) (hi : T (lt x far)) where
  fine : T (finite x)
  fine = inside-finite far x tt lo hi

  -- a whole number g such that x + g is 2^52 or more in size
  module _ (g : Float) (w v : ℕ) (G : Val g w v 1) (some : 0 < plus (neg g) + less (neg g)) (most : w ≤ v + 2 ^ 52) (least : v ≤ w + 2 ^ 52) (out : Out (floor_plus x + w) (floor_less x + v)) where
    -- x + g is a whole number: the floor's or, if u is 1, the next one's
    sum-lands : (u : ℕ) → u ≤ 1 → plus x + floor_less x * den x ≤ floor_plus x * den x + u * den x + less x
        → Val (add binary64 x g) (floor_plus x + w) (floor_less x + v) 1 ⊎ ((u ≡ 1) × Val (add binary64 x g) (suc (floor_plus x + w)) (floor_less x + v) 1)
    sum-lands u U h =
        let b = floor-near x lo hi in
        let k = floor-under x fine in
        lands (add binary64 x g) _ _ _ (floor_plus x + w) (floor_less x + v) u (mul-pos (den_pos x) (zero-lt-suc 0)) (add-fits binary64 x g)
        (add_at binary64 x g (plus x) (less x) (den x) w v 1 (den_pos x) (zero-lt-suc 0) (own_val x fine) G)
        U (omega arith) (omega arith) out (omega arith) (omega arith)

    -- g taken off again: nothing is lost, and a zero is +0
    back : (a : ℕ) → floor_plus x ≤ a → a ≤ suc (floor_plus x) → Val (add binary64 x g) (a + w) (floor_less x + v) 1 → Val (around x g) a (floor_less x) 1
    back a h k s =
        let b = floor-near x lo hi in
        val_same (around x g) _ _ 1 a (floor_less x) (omega arith)
        (rounds-whole binary64 (around x g) _ _ (omega arith) (omega arith) (add_at binary64 (add binary64 x g) (neg g) (a + w) (floor_less x + v) 1 v w 1 (zero-lt-suc 0) (zero-lt-suc 0) s (neg-val g w v 1 G)))

    back-zero : (a : ℕ) → a ≡ floor_less x → Val (add binary64 x g) (a + w) (floor_less x + v) 1 → around x g ≡ zero₀
    back-zero a e s = cancels binary64 (add binary64 x g) (neg g) (a + w) (floor_less x + v) v w some s (neg-val g w v 1 G) (omega arith)

    -- so the floor itself, or the next whole number, comes back as data
    back-under : T (lt (floored x) x) → Val (add binary64 x g) (floor_plus x + w) (floor_less x + v) 1 → around x g ≡ floored x
    back-under l s =
        same-data binary64 (around x g) (floored x) (floor_plus x) (floor_less x) 1 (zero-lt-suc 0) (add-fits binary64 (add binary64 x g) (neg g)) (floor-fits x t)
        (back (floor_plus x) (omega arith) (omega arith) s) (floor-is x fine t)
        (λ e. back-zero (floor_plus x) e s ∙ sym (floor-zero x fine t l e))

    back-over : Val (add binary64 x g) (suc (floor_plus x) + w) (floor_less x + v) 1 → around x g ≡ add binary64 (floored x) one₀
    back-over s =
        same-data binary64 (around x g) (add binary64 (floored x) one₀) (suc (floor_plus x)) (floor_less x) 1 (zero-lt-suc 0) (add-fits binary64 (add binary64 x g) (neg g)) (add-fits binary64 (floored x) one₀)
        (back (suc (floor_plus x)) (omega arith) (omega arith) s) (next-is x t lo hi)
        (λ e. back-zero (suc (floor_plus x)) e s ∙ sym (cancels binary64 (floored x) one₀ (floor_plus x) (floor_less x) 1 0 (zero-lt-suc 0) (floor-is x fine t) (tt, refl) (omega arith)))

    -- and a whole x as a number
    back-same : Val x (floor_plus x) (floor_less x) 1 → Val (add binary64 x g) (floor_plus x + w) (floor_less x + v) 1 → T (eq (around x g) x)
    back-same X s =
        let M = back (floor_plus x) (omega arith) (omega arith) s in
        les→eq (around x g) x M.0 fine
        (vals→le (around x g) x _ _ 1 _ _ 1 (zero-lt-suc 0) (zero-lt-suc 0) M X (le_of_eq refl))
        (vals→le x (around x g) _ _ 1 _ _ 1 (zero-lt-suc 0) (zero-lt-suc 0) X M (le_of_eq refl))

    beside : Beside x (around x g)
    beside = go (lt (floored x) x) (λ l. l) (not-lt→le (floored x) x (finite_number (floored x) (floor-finite x fine t)) (finite_number x fine))
      where
        go : (b : Bool) → (T b → T (lt (floored x) x)) → (T (not b) → T (le x (floored x))) → Beside x (around x g)
        go true h k = elim (sum-lands 1 (omega arith) (let i = floor-next x fine in omega arith)) [
          | inl s ↦ under (h tt) (back-under (h tt) s)
          | inr s ↦ over (h tt) (back-over (val_same (add binary64 x g) _ _ 1 _ _ (omega arith) s.1))
        ]
        go false h k =
            let i = le→vals x (floored x) _ _ (den x) _ _ 1 (den_pos x) (zero-lt-suc 0) (own_val x fine) (floor-is x fine t) (k tt) in
            let j = floor-under x fine in
            let X : Val x (floor_plus x) (floor_less x) 1 = (fine, omega arith) in
            elim (sum-lands 0 (omega arith) (omega arith)) [
              | inl s ↦ same (whole-floor x _ _ t X) (back-same X s)
              | inr s ↦ let z = s.0 in absurd (lt_irrefl 0 (omega arith))
            ]

  -- ---- the code's two ways
  pub beside-below : T (lt x zero₀) → Beside x (add binary64 (sub binary64 x far) far)
  unfolding sub neg
  beside-below l =
      let a = lt→cross x zero₀ fine tt l in
      let b = floor-under x fine in
      let c : floor_plus x < floor_less x = lt_of_mul-lt-mul_right (den x) (omega arith) in
      beside (fin true 1 (pos 52)) 0 (2 ^ 52) (tt, refl) (lit< tt) (omega arith) (omega arith) (inr (omega arith))

  pub beside-above : T (not (lt x zero₀)) → Beside x (sub binary64 (add binary64 x far) far)
  unfolding sub neg
  beside-above l =
      let a = le→cross zero₀ x tt fine (not-lt→le x zero₀ (finite_number x fine) tt l) in
      let b = floor-next x fine in
      let c : floor_less x < suc (floor_plus x) = lt_of_mul-lt-mul_right (den x) (omega arith) in
      beside far (2 ^ 52) 0 (tt, refl) (lit< tt) (omega arith) (omega arith) (inl (omega arith))

  -- ---- from a whole number beside x to the floor
  pub floor-equal : (r : Float) → Beside x r → T (eq r x) → x ≡ floored x
  floor-equal r (same e h) k = e
  floor-equal r (under l e) k = absurd (unequal (floored x) x (floor-finite x fine t) fine l (subst (λ (z : Float). T (eq z x)) e k))
  floor-equal r (over l e) k =
      let y = add binary64 (floored x) one₀ in
      absurd (unequal x y fine (next-is x t lo hi).0 (floor-lt-next x t lo hi) (subst T (eq_swap y x) (subst (λ (z : Float). T (eq z x)) e k)))

  floor-down : (r : Float) → Beside x r → T (not (eq r x)) → T (not (lt x r)) → r ≡ floored x
  floor-down r (same e h) n k = absurd (T_not (eq r x) n h)
  floor-down r (under l e) n k = e
  floor-down r (over l e) n k = absurd (T_not (lt x r) k (subst (λ (z : Float). T (lt x z)) (sym e) (floor-lt-next x t lo hi)))

  floor-back : (r : Float) → Beside x r → T (not (eq r x)) → T (lt x r) → sub binary64 r one₀ ≡ floored x
  unfolding sub neg
  floor-back r (same e h) n k = absurd (T_not (eq r x) n h)
  floor-back r (under l e) n k = absurd (apart (floored x) x (floor-finite x fine t) fine l (subst (λ (z : Float). T (lt x z)) e k))
  floor-back r (over l e) n k =
      let y = add binary64 (floored x) one₀ in
      let i = fin true 1 (pos 0) in
      let b = floor-near x lo hi in
      let v = next-is x t lo hi in
      ap (λ (z : Float). add binary64 z i) e
      ∙ same-data binary64 (add binary64 y i) (floored x) (floor_plus x) (floor_less x) 1 (zero-lt-suc 0) (add-fits binary64 y i) (floor-fits x t)
      (val_same (add binary64 y i) _ _ 1 _ _ (omega arith) (rounds-whole binary64 (add binary64 y i) _ _ (omega arith) (omega arith) (add_at binary64 y i _ _ 1 0 1 1 (zero-lt-suc 0) (zero-lt-suc 0) v (tt, refl))))
      (floor-is x fine t)
      (λ q. cancels binary64 y i _ _ 0 1 (zero-lt-suc 0) v (tt, refl) (omega arith) ∙ sym (floor-zero x fine t l q))

  -- one taken off where r lies above x
  pub floor-off : (r d : Float) → Beside x r → T (not (eq r x)) → d ≡ cond (lt x r) one₀ zero₀ → sub binary64 r d ≡ floored x
  floor-off r d b n e = ap (sub binary64 r) e ∙ go (lt x r) (λ h. h) (λ h. h)
    where
      go : (u : Bool) → (T u → T (lt x r)) → (T (not u) → T (not (lt x r))) → sub binary64 r (cond u one₀ zero₀) ≡ floored x
      go true h k = floor-back r b n (h tt)
      go false h k = let g = floor-down r b n (k tt) in rw (g, minus-zero binary64 (floored x) (floor-fits x t))
