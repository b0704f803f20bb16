-- C11: the cosine table has its rules. One test, computed over the whole table: it compares the table with itself
-- shifted, reversed and with every other entry left out, and uses no index. What the test says at each index is shown
-- of any list, so that no goal contains the table. Assumes nothing.
use mathlib.Core.Path.{◌≡◌, refl, subst}
use mathlib.Core.Bool.{Bool, ◌&&◌}
use mathlib.Core.List.{List, reverse}
use Prim.Native.Nat.{ℕ, suc, ◌+◌, ◌-◌, ◌*◌, ◌^◌, ◌<◌, ◌≤◌}
use native.Mathlib.Nat.{add_comm}
use native.Mathlib.Numerals.{add-one}
use native.Mathlib.Omega.{arith}
use lib.Dec.{T, leb, leb→le}
use lib.ListN.{length, get_or, take, drop, length-drop, length-reverse}
use lib.Seq.{get_or-drop, get_or-take, length-take-le}
use lib.Ieee.{Float, nan, binary32, of_bits, fits, neg, lt, eq}
use lib.Ieee.Fits.{and_l, and_r, neg-fits}
use lib.Ieee.Scale.{finite}
use Rattle.ieee.specs.Alike.{Opposite}
use Rattle.ieee.specs.Notation.{zero₀, one₀}
use Rattle.ieee.specs.Fraction.{Fraction, own, Within}
use Rattle.ieee.proofs.Laws.Like.{like-minus, like-then}
use Rattle.ieee.proofs.Laws.Unique.{eq→alike}
use Rattle.cosine.specs.Bits.{cos_bits}
use Rattle.cosine.specs.Table.{cos_list, cos_at}
use Rattle.cosine.specs.Rules.{doubled, Rules}
use Rattle.lists.proofs.Laws.Along.{each, each_at, along, along-at, thinned, get_or-thinned, length-thinned, get_or_reverse}

-- ---- the tests of one entry, or of two, and what each says
abbrev entry : Float → Bool
entry x = fits binary32 x && finite x

-- y is -x as a number, and both fit: so they are opposite
abbrev opposite : Float → Float → Bool
opposite x y = eq y (neg x)

opposites : (x y : Float) → T (fits binary32 x) → T (fits binary32 y) → T (opposite x y) → Opposite y x
opposites x y h k t = like-then (eq→alike binary32 y (neg x) k (neg-fits binary32 x h) t) (like-minus x)

-- q ≤ r + e / d, and |q - r| ≤ e / d
abbrev below : ℕ → ℕ → Fraction → Fraction → Bool
below e d q r = leb ((q.plus * r.over + r.less * q.over) * d) ((r.plus * q.over + q.less * r.over) * d + e * (q.over * r.over))

abbrev within : ℕ → ℕ → Fraction → Fraction → Bool
within e d q r = below e d q r && below e d r q

within-is : (e d : ℕ) (q r : Fraction) → T (within e d q r) → Within e d q r
within-is e d q r t = record { under = leb→le _ _ (and_l (below e d q r) (below e d r q) t); above = leb→le _ _ (and_r (below e d q r) (below e d r q) t) }

abbrev double : Float → Float → Bool
double x y = within 1 (2 ^ 22) (doubled (own x)) (own y)

-- ---- the test of a list. Its first half, both ends included:
abbrev front : List Float → List Float
front l = take 2049 l

record Test (l : List Float) : Type 0 where
  entries : T (each entry l)
  moved : T (along opposite l (drop 2048 l))
  turned : T (along opposite (front l) (reverse (front l)))
  next : T (along (λ x y. lt y x) (front l) (drop 1 (front l)))
  thin : T (along double l (thinned l))

-- ---- what it says at each index
module _ (l : List Float) (len : length l ≡ 4097) (test : Test l) where
  abbrev at : ℕ → Float
  at j = get_or l j nan

  front_length : length (front l) ≡ 2049
  front_length = length-take-le 2049 l (omega arith)

  front_at : (j : ℕ) → j ≤ 2048 → get_or (front l) j nan ≡ at j
  front_at j h = get_or-take 2049 l j nan (omega arith)

  held : (j : ℕ) → j ≤ 4096 → T (fits binary32 (at j))
  held j h = and_l (fits binary32 (at j)) (finite (at j)) (each_at entry nan l test.entries j (omega arith))

  number : (j : ℕ) → j ≤ 4096 → T (finite (at j))
  number j h = and_r (fits binary32 (at j)) (finite (at j)) (each_at entry nan l test.entries j (omega arith))

  half-turn : (j : ℕ) → j ≤ 2048 → Opposite (at (j + 2048)) (at j)
  half-turn j h =
      opposites (at j) (at (j + 2048)) (held j (omega arith)) (held (j + 2048) (omega arith))
      (rw (get_or-drop, add_comm 2048 j) at (along-at opposite nan l (drop 2048 l) test.moved j (omega arith) (simp length-drop (omega arith))))

  mirrored : (j : ℕ) → j ≤ 2048 → Opposite (at (2048 - j)) (at j)
  mirrored j h =
      opposites (at j) (at (2048 - j)) (held j (omega arith)) (held (2048 - j) (omega arith))
      (rw (get_or_reverse (front l) j (2048 - j) nan (omega (arith, front_length)), front_at j h, front_at (2048 - j) (omega arith)) at
      (along-at opposite nan (front l) (reverse (front l)) test.turned j (omega (arith, front_length)) (omega (arith, front_length, length-reverse (front l)))))

  falls : (j : ℕ) → j < 2048 → T (lt (at (suc j)) (at j))
  falls j h =
      rw (get_or-drop, front_at j (omega arith), front_at (1 + j) (omega arith), add_comm 1 j, add-one) at
      (along-at (λ x y. lt y x) nan (front l) (drop 1 (front l)) test.next j (omega (arith, front_length)) (omega (arith, front_length, length-drop 1 (front l))))

  doubles : (j : ℕ) → j ≤ 2048 → Within 1 (2 ^ 22) (doubled (own (at j))) (own (at (2 * j)))
  doubles j h =
      within-is 1 (2 ^ 22) (doubled (own (at j))) (own (at (2 * j)))
      (subst (λ (i : ℕ). T (double (at j) (at i))) (omega arith)
      (rw get_or-thinned at (along-at double nan l (thinned l) test.thin j (omega arith) (omega (arith, length-thinned l)))))

-- ---- the one computation
passes : Test cos_list
unfolding cos_list cos_bits of_bits each along thinned fits neg eq lt
passes = record { entries = tt; moved = tt; turned = tt; next = tt; thin = tt }

pub length-cos : length cos_list ≡ 4097
unfolding cos_list cos_bits
length-cos = refl

pub cos-rules : Rules cos_at
cos-rules = record {
  held = held cos_list length-cos passes;
  number = number cos_list length-cos passes;
  start = first;
  whole-turn = last;
  quarter = quarter-zero;
  three_quarters = later-zero;
  half-turn = half-turn cos_list length-cos passes;
  mirrored = mirrored cos_list length-cos passes;
  falls = falls cos_list length-cos passes;
  doubles = doubles cos_list length-cos passes;
}
  where
    first : cos_at 0 ≡ one₀
    first = unfold cos_list cos_bits of_bits in refl

    last : cos_at 4096 ≡ cos_at 0
    last = unfold cos_list cos_bits of_bits in refl

    quarter-zero : cos_at 1024 ≡ zero₀
    quarter-zero = unfold cos_list cos_bits of_bits in refl

    later-zero : cos_at 3072 ≡ zero₀
    later-zero = unfold cos_list cos_bits of_bits in refl
