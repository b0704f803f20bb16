-- `floored` is exact: its value is the whole number itself. It is at most x, and x is below it plus one (N4). A whole
-- number is its own floor, as every value from 2^52 up is; and floats alike have floors alike. Assumes nothing.
use mathlib.Core.Path.{◌≡◌, refl, sym, ap, ◌∙◌, subst}
use mathlib.Core.Logic.{◌⊎◌, inl, inr}
use Prim.Native.Nat.{ℕ, zero, suc, ◌+◌, ◌-◌, ◌*◌, ◌/◌, ◌^◌, ◌≤◌, ◌<◌}
use native.Mathlib.Nat.{le_trans, le_of_eq, zero-lt-suc, zero-mul, mul-one, mul_comm, zero-div, div-eq_of_lt, div-le_self, div-mul-le_self, div-add-mod', mod-lt, mul-div_cancel, div-lt_iff_lt-mul, mul-le-mul_right, lt_of_mul-lt-mul_right, suc-mul}
use native.Mathlib.Omega.{arith}
use mathlib.Core.Bool.{Bool, true, false, not, cond}
use lib.IntN.{ℤ, pos, negsuc}
use lib.Dec.{T}
use lib.Arith.{digits_div}
use lib.Pow.{pow_pos}
use lib.Ieee.{Float, nan, inf, fin, binary64, up, down, round, add, neg, le, lt, fits}
use lib.Ieee.Fits.{down_pos, round-fits}
use lib.Ieee.Exact.{HasValue}
use lib.Ieee.Back.{round_whole, whole_unique}
use lib.Ieee.Scale.{finite}
use lib.Ieee.Positive.{den, den_pos}
use Rattle.ieee.specs.Alike.{plain, signed, Alike}
use Rattle.ieee.specs.Notation.{one₀}
use Rattle.ieee.specs.Fraction.{plus, less, Val}
use Rattle.ieee.proofs.Laws.Round.{round-zero}
use Rattle.ieee.proofs.Laws.Order.{multiple-less, own_val, has-val, vals→le, vals→lt, le→cross, not-lt→le, inside-finite, inside-size, val_same}
use Rattle.ieee.proofs.Laws.Rounds.{add_at}
use Rattle.ieee.proofs.Laws.Held.{fits-parts, on-grid, no_fraction}
use Rattle.numbers.specs.Whole.{whole_down, floored, floor_plus, floor_less, far}
use Rattle.ieee.proofs.Laws.Exact.{rounds-whole}

-- ---- the quotient, either way
up_le : (a c : ℕ) → 0 < c → (a + (c - 1)) / c * c < a + c
up_le a c C = let h = div-mul-le_self (a + (c - 1)) c in omega arith

up-ge : (a c : ℕ) → 0 < c → a ≤ (a + (c - 1)) / c * c
up-ge a c C =
    let h = div-add-mod' (a + (c - 1)) c in
    let k = mod-lt (a + (c - 1)) C in
    omega arith

cut-lt : (a c : ℕ) → 0 < c → a < a / c * c + c
cut-lt a c C =
    let h = div-add-mod' a c in
    let k = mod-lt a C in
    omega arith

-- the size of the whole part is at most the significand, where there is a fraction
up_small : (m k P : ℕ) → m < P → (m * 1 + (2 ^ suc k - 1)) / 2 ^ suc k ≤ P
up_small m k P h =
    let c = 2 ^ suc k in
    let C : 0 < c = pow_pos (suc k) in
    let t : (m * 1 + (c - 1)) / c < suc m = (div-lt_iff_lt-mul C).1 (grow m c C) in
    omega arith
  where
    grow : (m c : ℕ) → 0 < c → m * 1 + (c - 1) < suc m * c
    grow m c C =
        let x : suc m * c ≡ m * c + c = suc-mul m c in
        let y : m * 1 ≤ m * c = le_trans (le_of_eq (mul_comm m 1)) (le_trans (mul-le-mul_right m C) (le_of_eq (mul_comm c m))) in
        omega arith

cut_small : (m c P : ℕ) → m < P → m * 1 / c ≤ P
cut_small m c P h = let k = div-le_self (m * 1) c in omega arith

-- ---- which whole number it is: floored x ≤ x < floored x + 1, of the fractions
pub floor-under : (x : Float) → T (finite x) → floor_plus x * den x + less x ≤ plus x + floor_less x * den x
floor-under nan p = absurd p
floor-under (inf s) p = absurd p
floor-under (fin false m e) p = let h = div-mul-le_self (m * up e) (down e) in omega arith
floor-under (fin true m e) p = let h = up-ge (m * up e) (down e) (down_pos e) in omega arith

pub floor-next : (x : Float) → T (finite x) → plus x + floor_less x * den x < floor_plus x * den x + den x + less x
floor-next nan p = absurd p
floor-next (inf s) p = absurd p
floor-next (fin false m e) p = let h = cut-lt (m * up e) (down e) (down_pos e) in omega arith
floor-next (fin true m e) p = let h = up_le (m * up e) (down e) (down_pos e) in omega arith

-- ---- `floored` has the whole number's value
whole-size : (s : Bool) (a : ℕ) → whole_down s a 1 ≡ a
whole-size false a = omega arith
whole-size true a = omega arith

pub floor-val : (s : Bool) (m : ℕ) (e : ℤ) → T (fits binary64 (fin s m e)) → HasValue (floored (fin s m e)) s (whole_down s (m * up e) (down e)) 1
unfolding floored
floor-val s m (pos k) t =
    let h = fits-parts binary64 s m (pos k) t in
    rw (whole-size s (m * 2 ^ k)) (on-grid binary64 s m (pos k) h.0 h.1 h.2)
floor-val false m (negsuc k) t = round_whole binary64 false (m * 1 / 2 ^ suc k) (cut_small m (2 ^ suc k) (2 ^ 53) (fits-parts binary64 false m (negsuc k) t).0)
floor-val true m (negsuc k) t = round_whole binary64 true ((m * 1 + (2 ^ suc k - 1)) / 2 ^ suc k) (up_small m k (2 ^ 53) (fits-parts binary64 true m (negsuc k) t).0)

pub floor-is : (x : Float) → T (finite x) → T (fits binary64 x) → Val (floored x) (floor_plus x) (floor_less x) 1
floor-is nan p t = absurd p
floor-is (inf s) p t = absurd p
floor-is (fin false m e) p t = has-val (floored (fin false m e)) false _ 1 (floor-val false m e t)
floor-is (fin true m e) p t = has-val (floored (fin true m e)) true _ 1 (floor-val true m e t)

pub floor-finite : (x : Float) → T (finite x) → T (fits binary64 x) → T (finite (floored x))
floor-finite x p t = (floor-is x p t).0

pub floor-fits : (x : Float) → T (fits binary64 x) → T (fits binary64 (floored x))
unfolding floored
floor-fits nan t = t
floor-fits (inf s) t = t
floor-fits (fin s m e) t = round-fits binary64 s (whole_down s (m * up e) (down e)) 1

-- so it is at most x, as floats
pub floor-le : (x : Float) → T (finite x) → T (fits binary64 x) → T (le (floored x) x)
floor-le x p t = vals→le (floored x) x _ _ 1 _ _ (den x) (zero-lt-suc 0) (den_pos x) (floor-is x p t) (own_val x p) (let h = floor-under x p in omega arith)

pub floor-one-side : (x : Float) → (floor_plus x ≡ 0) ⊎ (floor_less x ≡ 0)
floor-one-side nan = inl refl
floor-one-side (inf s) = inl refl
floor-one-side (fin true m e) = inl refl
floor-one-side (fin false m e) = inr refl

-- ---- x below k, or from -k up
pub floor-below : (x : Float) (k : ℕ) → T (finite x) → plus x < less x + k * den x → floor_plus x < k + floor_less x
floor-below x k p h = let u = floor-under x p in lt_of_mul-lt-mul_right (den x) (omega arith)

pub floor-least : (x : Float) (k : ℕ) → T (finite x) → less x ≤ plus x + k * den x → floor_less x < k + suc (floor_plus x)
floor-least x k p h = let n = floor-next x p in lt_of_mul-lt-mul_right (den x) (omega arith)

-- x is below k in size
pub floor-size : (x : Float) (k : ℕ) → T (finite x) → plus x < less x + k * den x → less x < plus x + k * den x → (floor_plus x < k + floor_less x) × (floor_less x < k + suc (floor_plus x))
floor-size x k p a b = (floor-below x k p a, floor-least x k p (omega arith))

-- ---- below 2^52
pub floor-near : (x : Float) → T (lt (neg far) x) → T (lt x far) → (floor_plus x < 2 ^ 52 + floor_less x) × (floor_less x < 2 ^ 52 + suc (floor_plus x))
floor-near x h k = let s = inside-size 52 x h k in floor-size x (2 ^ 52) (inside-finite far x tt h k) s.0 s.1

-- the whole number after the floor, of which nothing is lost
pub next-is : (x : Float) → T (fits binary64 x) → T (lt (neg far) x) → T (lt x far) → Val (add binary64 (floored x) one₀) (suc (floor_plus x)) (floor_less x) 1
next-is x t h k =
    let p = inside-finite far x tt h k in
    let b = floor-near x h k in
    let z = add binary64 (floored x) one₀ in
    val_same z _ _ 1 _ _ (omega arith) (rounds-whole binary64 z _ _ (omega arith) (omega arith) (add_at binary64 (floored x) one₀ (floor_plus x) (floor_less x) 1 1 0 1 (zero-lt-suc 0) (zero-lt-suc 0) (floor-is x p t) (tt, refl)))

pub floor-lt-next : (x : Float) → T (fits binary64 x) → T (lt (neg far) x) → T (lt x far) → T (lt x (add binary64 (floored x) one₀))
floor-lt-next x t h k =
    let p = inside-finite far x tt h k in
    vals→lt x _ _ _ (den x) _ _ 1 (own_val x p) (next-is x t h k) (let g = floor-next x p in omega arith)

-- ---- a whole number is its own floor
whole_of : (s : Bool) (q c : ℕ) → 0 < c → whole_down s (q * c) c ≡ q
whole_of false q c C = mul-div_cancel q C
whole_of true q c C = digits_div q (omega arith)

pub whole-floor : (x : Float) (q r : ℕ) → T (fits binary64 x) → Val x q r 1 → x ≡ floored x
whole-floor nan q r t v = absurd v.0
whole-floor (inf s) q r t v = absurd v.0
whole-floor (fin s m e) q r t v =
    let x = fin s m e in
    whole_unique binary64 x (floored x) s (cond s (r - q) (q - r)) t (floor-fits x t)
    (refl, mul-one (m * up e) ∙ size s v.1)
    (subst (λ (z : ℕ). HasValue (floored x) s z 1) (ap (λ (z : ℕ). whole_down s z (down e)) (size s v.1) ∙ whole_of s (cond s (r - q) (q - r)) (down e) (down_pos e)) (floor-val s m e t))
  where
    size : (s : Bool) → plus (fin s m e) * 1 + r * down e ≡ q * down e + less (fin s m e) * 1 → m * up e ≡ cond s (r - q) (q - r) * down e
    size false h = multiple-less (m * up e) (down e) q r (down_pos e) (omega arith)
    size true h = multiple-less (m * up e) (down e) r q (down_pos e) (omega arith)

-- from 2^52 up, either way
pub far-above : (x : Float) → T (fits binary64 x) → T (not (lt x far)) → x ≡ floored x
far-above nan t h = unfold floored in refl
far-above (inf s) t h = unfold floored in refl
far-above (fin s m e) t h =
    let x = fin s m e in
    let g = le→cross far x tt tt (not-lt→le x far tt tt h) in
    let w = no_fraction binary64 x tt t (omega arith) in
    whole-floor x w.0 w.1 t w.2

pub far-below : (x : Float) → T (fits binary64 x) → T (not (lt (neg far) x)) → x ≡ floored x
unfolding neg
far-below nan t h = unfold floored in refl
far-below (inf s) t h = unfold floored in refl
far-below (fin s m e) t h =
    let x = fin s m e in
    let g = le→cross x (fin true 1 (pos 52)) tt tt (not-lt→le (fin true 1 (pos 52)) x tt tt h) in
    let w = no_fraction binary64 x tt t (omega arith) in
    whole-floor x w.0 w.1 t w.2

-- ---- of floats alike: a zero of either sign has the floor 0
down-zero : (s : Bool) (u c : ℕ) → 0 < c → whole_down s (0 * u) c ≡ 0
down-zero false u c C = simp (zero-mul, zero-div)
down-zero true u c C = div-eq_of_lt (omega arith)

plus-plain : (x : Float) → floor_plus (plain x) ≡ floor_plus x
unfolding plain
plus-plain nan = refl
plus-plain (inf s) = refl
plus-plain (fin false zero e) = sym (down-zero false (up e) (down e) (down_pos e))
plus-plain (fin true zero e) = refl
plus-plain (fin s (suc m) e) = refl

less-plain : (x : Float) → floor_less (plain x) ≡ floor_less x
unfolding plain
less-plain nan = refl
less-plain (inf s) = refl
less-plain (fin false zero e) = refl
less-plain (fin true zero e) = sym (down-zero true (up e) (down e) (down_pos e))
less-plain (fin s (suc m) e) = refl

floored-plain : (x : Float) → plain (floored (plain x)) ≡ plain (floored x)
unfolding plain floored
floored-plain nan = refl
floored-plain (inf s) = refl
floored-plain (fin s zero e) = ap plain (zero_is false (pos 0)) ∙ sym (ap plain (zero_is s e))
  where
    zero_is : (s : Bool) (e : ℤ) → round binary64 s (whole_down s (zero * up e) (down e)) 1 ≡ fin s zero (pos 0)
    zero_is s e = ap (λ (z : ℕ). round binary64 s z 1) (down-zero s (up e) (down e) (down_pos e)) ∙ round-zero binary64 s 1 (zero-lt-suc 0)
floored-plain (fin s (suc m) e) = refl

pub alike-floor-plus : {x y : Float} → Alike x y → floor_plus x ≡ floor_plus y
unfolding signed
alike-floor-plus {x} {y} p = cc (plus-plain x, plus-plain y, p.same)

pub alike-floor-less : {x y : Float} → Alike x y → floor_less x ≡ floor_less y
unfolding signed
alike-floor-less {x} {y} p = cc (less-plain x, less-plain y, p.same)

pub alike-floor : {x y : Float} → Alike x y → Alike (floored x) (floored y)
unfolding signed
alike-floor {x} {y} p = record { same = cc (floored-plain x, floored-plain y, p.same) }
