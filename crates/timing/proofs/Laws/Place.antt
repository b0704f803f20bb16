-- A place moved by the floor of v: the cast of the whole number to a `usize` loses nothing, and the place
-- is the definition's. Assumes nothing.
use Rattle.std.proofs.Common.{◌≡◌, ℕ, ◌+◌, ◌-◌, ◌^◌, ◌<◌, ◌≤◌, true, false, T, pos, sym, refl, ap, ◌∙◌, subst, le_of_lt, lt_irrefl, arith, le→leb}
use lib.Ieee.{Float, fin, binary64, sub, lt, of_int, to_unsigned, in_unsigned, in_float}
use lib.Ieee.Back.{unsigned_back}
use lib.Ieee.Scale.{finite}
use Rattle.ieee.specs.Notation.{zero₀}
use Rattle.ieee.specs.Fraction.{Val}
use Rattle.ieee.proofs.Laws.Order.{plus-some}
use Rattle.ieee.proofs.Laws.Exact.{zero_minus}
use Rattle.numbers.specs.Whole.{floored, floor_plus, floor_less}
use Rattle.numbers.proofs.Laws.Whole.{floor-is}
use Rattle.timing.specs.Clock.{whole_at, Back, On}

-- y is the whole number n, which a cast keeps
record Cast (y : Float) (n : ℕ) : Type 0 where
  pub asks : T (in_unsigned binary64 64 y)
  pub gives : to_unsigned 64 y ≡ n

cast-whole : (n : ℕ) → n < 2 ^ 53 → Cast (of_int binary64 (pos n)) n
unfolding in_float
cast-whole n h = let k = unsigned_back binary64 64 n (le→leb n (2 ^ 53) (le_of_lt h)) (omega arith) in record { asks = k.0; gives = k.1 }

-- ---- back: 0 - f, for the floor f of a v below 1
module _ (i : ℕ) (v f : Float) (b : Back i v) (is : f ≡ floored v) where
  back_is : sub binary64 zero₀ f ≡ of_int binary64 (pos (floor_less v))
  unfolding of_int
  back_is =
      ap (λ (x : Float). sub binary64 zero₀ x) is
      ∙ zero_minus binary64 (floored v) (floor_less v) (subst (λ (n : ℕ). Val (floored v) n (floor_less v) 1) b.not_on (floor-is v b.v-finite b.v-fits))

  back-cast : Cast (sub binary64 zero₀ f) (floor_less v)
  back-cast = subst (λ (x : Float). Cast x (floor_less v)) (sym back_is) (cast-whole (floor_less v) b.small)

  pub back-asks : T (in_unsigned binary64 64 (sub binary64 zero₀ f))
  back-asks = back-cast.asks

  pub back-room : to_unsigned 64 (sub binary64 zero₀ f) ≤ i
  back-room = let g = back-cast.gives in let r = b.room in omega arith

  pub back-place : i - to_unsigned 64 (sub binary64 zero₀ f) ≡ whole_at i v
  back-place = let g = back-cast.gives in let z = b.not_on in omega arith

-- ---- on: f, for the floor f of a v above 0
on-is : (v : Float) → T (lt zero₀ v) → T (finite v) → (floored v ≡ of_int binary64 (pos (floor_plus v))) × (floor_less v ≡ 0)
unfolding floored of_int
on-is (fin false m e) a p = (refl, refl)
on-is (fin true m e) a p = absurd (lt_irrefl 0 (plus-some (fin true m e) p a).0)
on-is lib.Ieee.nan a p = elim p [ ]
on-is (lib.Ieee.inf _) a p = elim p [ ]

module _ (i : ℕ) (v f : Float) (o : On i v) (is : f ≡ floored v) where
  on-cast : Cast f (floor_plus v)
  on-cast = subst (λ (x : Float). Cast x (floor_plus v)) (sym (is ∙ (on-is v o.above o.v-finite).0)) (cast-whole (floor_plus v) o.small)

  pub on-asks : T (in_unsigned binary64 64 f)
  on-asks = on-cast.asks

  pub on_room : i + to_unsigned 64 f < 2 ^ 64
  on_room = let g = on-cast.gives in let r = o.room in omega arith

  pub on-place : i + to_unsigned 64 f ≡ whole_at i v
  on-place = let g = on-cast.gives in let z = (on-is v o.above o.v-finite).1 in omega arith
