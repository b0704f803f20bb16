-- Quarter turns of samples and of lists of them: two make the opposite, four are none, turns add,
-- and turning respects numbers alike. Assumes nothing.
use mathlib.Core.Path.{◌≡◌, refl, ap, ◌∙◌}
use mathlib.Core.List.{List, [], ◌∷◌}
use Prim.Native.Nat.{ℕ, zero, suc, ◌+◌, ◌*◌, ◌/◌, ◌%◌}
use native.Mathlib.Nat.{zero-add, suc-add}
use native.Mathlib.Omega.{arith}
use mathlib.Core.Bool.{◌&&◌}
use lib.Dec.{T}
use lib.Ieee.{neg, eq, is_nan}
use Rattle.ieee.specs.Notation.{zero₀, one₀}
use Rattle.ieee.specs.Alike.{same_number}
use Rattle.ieee.proofs.Laws.Algebra.{neg-neg}
use Rattle.ieee.proofs.Laws.Like.{like-refl, like-trans, like-neg}
use Rattle.values.specs.declared.sample.C32.{C32}
use Rattle.lists.specs.Each.{none, more}
use Rattle.values.specs.Turn.{turn, turns, turns_all, AlikeSample, Turned, AllTurned}

-- ---- which turn it is: two make the opposite, and of 1 it makes i
pub turns-two : (z : C32) → turns 2 z ≡ record { re = neg z.re; im = neg z.im }
unfolding turns
turns-two z = refl

abbrev one : C32
one = record { re = one₀; im = zero₀ }

pub turn-of-one : T (same_number (turn one).re zero₀ && same_number (turn one).im one₀)
unfolding neg eq is_nan
turn-of-one = tt

-- ---- samples alike
pub alike_refl : (z : C32) → AlikeSample z z
alike_refl z = record { real = like-refl z.re; imag = like-refl z.im }

pub alike-trans : {v w z : C32} → AlikeSample v w → AlikeSample w z → AlikeSample v z
alike-trans p q = record { real = like-trans p.real q.real; imag = like-trans p.imag q.imag }

pub alike-turn : {v z : C32} → AlikeSample v z → AlikeSample (turn v) (turn z)
alike-turn p = record { real = like-neg p.imag; imag = p.real }

pub alike-turns : (k : ℕ) {v z : C32} → AlikeSample v z → AlikeSample (turns k v) (turns k z)
unfolding turns
alike-turns zero p = p
alike-turns (suc k) p = alike-turn (alike-turns k p)

-- ---- turns as data
pub turns-turn : (k : ℕ) (z : C32) → turns k (turn z) ≡ turn (turns k z)
unfolding turns
turns-turn zero z = refl
turns-turn (suc k) z = ap turn (turns-turn k z)

pub turns-add : (j k : ℕ) (z : C32) → turns (j + k) z ≡ turns j (turns k z)
unfolding turns
turns-add zero k z = rw zero-add
turns-add (suc j) k z = rw suc-add (ap turn (turns-add j k z))

pub turns-four : (z : C32) → turns 4 z ≡ z
unfolding turns
turns-four z = λ i. record { re = neg-neg z.re i; im = neg-neg z.im i }

turns-fours : (n : ℕ) (z : C32) → turns (4 * n) z ≡ z
turns-fours zero z = unfold turns in refl
turns-fours (suc n) z =
    let e : 4 * suc n ≡ 4 + 4 * n = omega arith in
    rw (e, turns-add 4 (4 * n) z, turns-fours n z, turns-four z)

-- turns count modulo four
pub turns-mod : (n : ℕ) (z : C32) → turns n z ≡ turns (n % 4) z
turns-mod n z =
    let e : n ≡ n % 4 + 4 * (n / 4) = omega arith in
    ap (λ (j : ℕ). turns j z) e ∙ turns-add (n % 4) (4 * (n / 4)) z ∙ ap (turns (n % 4)) (turns-fours (n / 4) z)

-- ---- lists
-- a list turned exactly is turned as numbers
pub turns_all-turned : (k : ℕ) (l : List C32) → AllTurned k l (turns_all k l)
turns_all-turned k [] = none
turns_all-turned k (z ∷ l) = more (alike_refl (turns k z)) (turns_all-turned k l)

-- ---- turned j and then k times, and k counts modulo four
pub turned-add : (j k : ℕ) (x y z : C32) → Turned j x y → Turned k y z → Turned (k + j) x z
turned-add j k x y z p q = alike-trans q (rw (turns-add k j x) (alike-turns k p))

pub turned-mod : (k : ℕ) (z v : C32) → Turned k z v → Turned (k % 4) z v
turned-mod k z v p = rw (← turns-mod k z) p
