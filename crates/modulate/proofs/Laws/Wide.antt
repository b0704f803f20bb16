-- The step of any v: between -2^63 and 2^63 its floor is a whole number that a cast to a u64 keeps, negated if it is
-- below zero. Assumes nothing.
use Rattle.std.proofs.Common.{◌≡◌, ℕ, suc, ◌+◌, ◌-◌, ◌*◌, ◌/◌, ◌%◌, ◌^◌, ◌<◌, ◌≤◌, true, false, not, T, pos, refl, ap, ◌∙◌, zero-lt-suc, lt_of_mul-lt-mul_right, mul-div_cancel, arith}
use lib.Ieee.{Float, nan, inf, fin, binary64, up, down, neg, le, lt, fits, to_unsigned}
use lib.Ieee.Fits.{down_pos}
use lib.Ieee.Scale.{finite}
use lib.Ieee.Positive.{den}
use Rattle.ieee.specs.Notation.{zero₀}
use Rattle.ieee.specs.Fraction.{plus, less, Val}
use Rattle.ieee.proofs.Laws.Order.{multiple-less, neg-val, vals→lt, lt→vals, le→vals, not-lt→le, not-le→lt, above-number, finite_number, inside-finite, inside-size}
use Rattle.numbers.specs.Whole.{floored, floor_plus, floor_less}
use Rattle.numbers.proofs.Laws.Whole.{floor-is, floor-size}
use Rattle.modulate.specs.Step.{stepped, Wraps}
use Rattle.modulate.proofs.Laws.Stepped.{Sized, end, stepped-own, stepped-bottom}

-- ---- a whole number a - b from 0 up to 2^64: what the cast to a `u64` asks and gives
record Cast (y : Float) (n : ℕ) : Type 0 where
  pub above : T (lt (fin true 1 (pos 0)) y)
  pub below : T (lt y (fin false 1 (pos 64)))
  pub gives : to_unsigned 64 y ≡ n

cast-gives : (y : Float) (a b : ℕ) → b ≤ a → a < b + 2 ^ 64 → Val y a b 1 → to_unsigned 64 y ≡ a - b
unfolding to_unsigned
cast-gives nan a b h k v = absurd v.0
cast-gives (inf s) a b h k v = absurd v.0
cast-gives (fin false m e) a b h k v =
    let g : m * up e ≡ (a - b) * down e = multiple-less (m * up e) (down e) a b (down_pos e) (let g = v.1 in omega arith) in
    let q : m * up e / down e ≡ a - b = ap (λ (z : ℕ). z / down e) g ∙ mul-div_cancel (a - b) (down_pos e) in
    omega arith
cast-gives (fin true m e) a b h k v =
    let g = v.1 in
    let x : a < b + 1 = lt_of_mul-lt-mul_right (down e) (let d = down_pos e in omega arith) in
    omega arith

cast-whole : (y : Float) (a b : ℕ) → b ≤ a → a < b + 2 ^ 64 → Val y a b 1 → Cast y (a - b)
cast-whole y a b h k v = record {
  above = vals→lt (fin true 1 (pos 0)) y 0 1 1 a b 1 (tt, refl) v (omega arith);
  below = vals→lt y (fin false 1 (pos 64)) a b 1 (2 ^ 64) 0 1 v (tt, refl) (omega arith);
  gives = cast-gives y a b h k v;
}

-- ---- between the ends
module _ (v n : Float) (is : n ≡ floored v) (t : T (fits binary64 v)) (top : T (not (le end v))) (bottom : T (lt (neg end) v)) where
  below_end : T (lt v end)
  below_end = not-le→lt end v tt (above-number (neg end) v bottom) top

  fine : T (finite v)
  fine = inside-finite end v tt bottom below_end

  size : Sized (2 ^ 63) (plus v) (less v) (den v)
  size = let s = inside-size 63 v bottom below_end in record { high = s.0; deep = s.1 }

  floor-value : Val n (floor_plus v) (floor_less v) 1
  floor-value = rw is (floor-is v fine t)

  floor-in : (floor_plus v < 2 ^ 63 + floor_less v) × (floor_less v < 2 ^ 63 + suc (floor_plus v))
  floor-in = floor-size v (2 ^ 63) fine size.high size.deep

  wraps : (r : ℕ) → Wraps r (floor_plus v) (floor_less v) → r ≡ stepped v
  wraps r w = stepped-own v r fine size w

  -- a floor below zero is negated
  module _ (minus : T (lt n zero₀)) where
    below-zero : floor_plus v < floor_less v
    below-zero = let h = lt→vals n zero₀ (floor_plus v) (floor_less v) 1 0 0 1 (zero-lt-suc 0) (zero-lt-suc 0) floor-value (tt, refl) minus in omega arith

    minus-cast : Cast (neg n) (floor_less v - floor_plus v)
    minus-cast =
        let h = below-zero in
        let b = floor-in in
        cast-whole (neg n) (floor_less v) (floor_plus v) (omega arith) (omega arith) (neg-val n (floor_plus v) (floor_less v) 1 floor-value)

    pub minus-asks : T (lt (fin true 1 (pos 0)) (neg n)) × T (lt (neg n) (fin false 1 (pos 64)))
    minus-asks = (minus-cast.above, minus-cast.below)

    pub minus-step : (q r : ℕ) → q ≡ to_unsigned 64 (neg n) → r < 2 ^ 32 → (r + q % 2 ^ 32) % 2 ^ 32 ≡ 0 → r ≡ stepped v
    minus-step q r e small g =
        let h = below-zero in
        let c : q ≡ floor_less v - floor_plus v = e ∙ minus-cast.gives in
        wraps r (record { small = small; same = omega arith })

  -- a floor from zero up is taken as it is
  module _ (some : T (not (lt n zero₀))) where
    above_zero : floor_less v ≤ floor_plus v
    above_zero =
        let h = le→vals zero₀ n 0 0 1 (floor_plus v) (floor_less v) 1 (zero-lt-suc 0) (zero-lt-suc 0) (tt, refl) floor-value (not-lt→le n zero₀ (finite_number n floor-value.0) tt some) in
        omega arith

    plus-cast : Cast n (floor_plus v - floor_less v)
    plus-cast = let h = above_zero in let b = floor-in in cast-whole n (floor_plus v) (floor_less v) h (omega arith) floor-value

    pub plus-asks : T (lt (fin true 1 (pos 0)) n) × T (lt n (fin false 1 (pos 64)))
    plus-asks = (plus-cast.above, plus-cast.below)

    pub plus_step : (q : ℕ) → q ≡ to_unsigned 64 n → q % 2 ^ 32 ≡ stepped v
    plus_step q e =
        let h = above_zero in
        let c : q ≡ floor_plus v - floor_less v = e ∙ plus-cast.gives in
        wraps (q % 2 ^ 32) (record { small = omega arith; same = omega arith })

-- at the low end and below, and for a NaN
pub step-bottom : (v : Float) → T (not (lt (neg end) v)) → 0 ≡ stepped v
unfolding neg
step-bottom nan h = unfold stepped in refl
step-bottom (inf s) h = stepped-bottom (inf s) (unfold neg in not-lt→le (fin true 1 (pos 63)) (inf s) tt tt h)
step-bottom (fin s m e) h = stepped-bottom (fin s m e) (unfold neg in not-lt→le (fin true 1 (pos 63)) (fin s m e) tt tt h)
