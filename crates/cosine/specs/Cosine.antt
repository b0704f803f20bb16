-- What a cosine is, without real numbers: six laws that determine the cosine of each j/4096 of a turn, in any number
-- system that has the laws listed here. The real numbers and their cosine have them all, so whatever is proved of
-- every `Numbers` and `Cosine` holds of them. Definitions only.
use Rattle.std.specs.Prelude.{◌≡◌, ℕ, zero, suc, ◌+◌, ◌-◌, ◌≤◌}
use Rattle.ieee.specs.Fraction.{Fraction}

-- An ordered number system. Beside each group of laws: why the real numbers have it.
pub record Numbers : Type 1 where
  pub R : Type 0
  pub nil : R
  pub one : R
  pub minus : R → R
  pub add : R → R → R
  pub mul : R → R → R
  pub le : R → R → Type 0
  -- sums: they are a commutative group
  pub add_assoc : (a b c : R) → add (add a b) c ≡ add a (add b c)
  pub add_comm : (a b : R) → add a b ≡ add b a
  pub add-nil : (a : R) → add a nil ≡ a
  pub add-minus : (a : R) → add a (minus a) ≡ nil
  -- products: with them they are a commutative ring
  pub mul_assoc : (a b c : R) → mul (mul a b) c ≡ mul a (mul b c)
  pub mul_comm : (a b : R) → mul a b ≡ mul b a
  pub mul-one : (a : R) → mul a one ≡ a
  pub mul-add : (a b c : R) → mul a (add b c) ≡ add (mul a b) (mul a c)
  -- the order: adding a number to both sides keeps it, and so does multiplying both by one that is not negative
  pub le_refl : (a : R) → le a a
  pub le_trans : (a b c : R) → le a b → le b c → le a c
  pub le-add : (a b c : R) → le a b → le (add a c) (add b c)
  pub le-mul : (a b c : R) → le nil c → le a b → le (mul a c) (mul b c)
  -- 0 < 1
  pub le-one : le nil one
  pub not-le-nil : ¬ (le one nil)
  -- dividing both sides by a c of 1 or more keeps the order, and so does the square root of both,
  -- where neither was negative
  pub le-cancel : (a b c : R) → le one c → le (mul a c) (mul b c) → le a b
  pub le-root : (a b : R) → le nil a → le nil b → le (mul a a) (mul b b) → le a b

-- `cosine j` is the cosine of j/4096 of a turn. Beside each law: why the true cosine has it, of an angle t.
pub record Cosine (N : Numbers) (cosine : ℕ → N.R) : Type 0 where
  -- cos 0 = 1
  pub start : cosine 0 ≡ N.one
  -- a quarter turn is a right angle, and its cosine is 0
  pub quarter : cosine 1024 ≡ N.nil
  -- the cosine of an acute angle is positive
  pub front : (j : ℕ) → j ≤ 1024 → N.le N.nil (cosine j)
  -- cos (half a turn - t) = -cos t
  pub mirrored : (j : ℕ) → j ≤ 2048 → N.add (cosine j) (cosine (2048 - j)) ≡ N.nil
  -- cos (a turn - t) = cos t
  pub backward : (j : ℕ) → j ≤ 4096 → cosine j ≡ cosine (4096 - j)
  -- cos 2t + 1 = 2 (cos t)²
  pub double : (j : ℕ) → N.add (cosine (j + j)) N.one ≡ N.add (N.mul (cosine j) (cosine j)) (N.mul (cosine j) (cosine j))

-- a whole number in the number system
unfoldable pub whole : (N : Numbers) → ℕ → N.R
whole N zero = N.nil
whole N (suc n) = N.add (whole N n) N.one

-- y against a fraction q = (plus - less) / over, with no division: less + over y stands against plus
abbrev pub scaled : (N : Numbers) → N.R → Fraction → N.R
scaled N y q = N.add (whole N q.less) (N.mul (whole N q.over) y)

-- q ≤ y, and y ≤ q
abbrev pub AtLeast : (N : Numbers) → N.R → Fraction → Type 0
AtLeast N y q = N.le (whole N q.plus) (scaled N y q)

abbrev pub AtMost : (N : Numbers) → N.R → Fraction → Type 0
AtMost N y q = N.le (scaled N y q) (whole N q.plus)
