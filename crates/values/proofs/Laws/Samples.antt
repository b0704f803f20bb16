-- The samples of a slice: how many there are, the one at an index, a part of the slice, one stored; and the way back.
-- Assumes nothing.
use mathlib.Core.Path.{◌≡◌, refl, ap, ◌∙◌}
use mathlib.Core.List.{List, [], ◌∷◌, ◌++◌}
use Prim.Native.Nat.{ℕ, zero, suc, ◌+◌, ◌*◌, ◌/◌, ◌%◌, ◌<◌, ◌≤◌}
use native.Mathlib.Omega.{arith}
use borrow.Author.Tests.{lt-ltb, le-ltb}
use lib.ListN.{get_or-eq_default, length, length-drop, get_or, take, drop, set}
use lib.Seq.{sets}
use lib.Ieee.{Float}
use Rattle.values.specs.declared.sample.C32.{C32}
use Rattle.values.specs.Samples.{samples, parts, stored}

pub length-samples : (xs : List Float) → length (samples xs) ≡ length xs / 2
unfolding samples
length-samples [] = refl
length-samples (x ∷ []) = refl
length-samples (x ∷ y ∷ l) = omega (arith, length-samples l)

pub length-parts : (l : List C32) → length (parts l) ≡ 2 * length l
unfolding parts
length-parts [] = refl
length-parts (z ∷ l) = omega (arith, length-parts l)

-- ---- there and back
pub parts_none : parts [] ≡ []
unfolding parts
parts_none = refl

pub parts-some : (y : C32) (l : List C32) → parts (y ∷ l) ≡ y.re ∷ y.im ∷ parts l
unfolding parts
parts-some y l = refl

pub samples-parts : (l : List C32) → samples (parts l) ≡ l
unfolding samples parts
samples-parts [] = refl
samples-parts (z ∷ l) = ap (λ (m : List C32). z ∷ m) (samples-parts l)

pub parts-samples : (xs : List Float) → length xs % 2 ≡ 0 → parts (samples xs) ≡ xs
unfolding samples parts
parts-samples [] h = refl
parts-samples (x ∷ []) h = absurd (omega arith)
parts-samples (x ∷ y ∷ l) h = ap (λ (m : List Float). x ∷ y ∷ m) (parts-samples l (omega arith))

-- ---- at an index
twice-suc : (i : ℕ) → 2 * suc i ≡ suc (suc (2 * i))
twice-suc i = omega arith

pub get_or-samples : (xs : List Float) (i : ℕ) (z : C32) (d : Float) → i < length xs / 2 → get_or (samples xs) i z ≡ record { re = get_or xs (2 * i) d; im = get_or xs (2 * i + 1) d }
unfolding samples
get_or-samples [] i z d h = absurd (omega arith)
get_or-samples (x ∷ []) i z d h = absurd (omega arith)
get_or-samples (x ∷ y ∷ l) zero z d h = refl
get_or-samples (x ∷ y ∷ l) (suc i) z d h =
    let g : suc (suc (2 * i)) + 1 ≡ suc (suc (2 * i + 1)) = omega arith in
    rw (twice-suc i, g) (get_or-samples l i z d (omega arith))

-- past the last sample
pub get_or_past : (xs : List Float) (i : ℕ) (z : C32) → length xs / 2 ≤ i → get_or (samples xs) i z ≡ z
get_or_past xs i z h = get_or-eq_default (samples xs) z (omega (arith, length-samples xs))

-- storing both parts stores the sample
pub samples-set : (xs : List Float) (i : ℕ) (z : C32) → i < length xs / 2 → samples (set (set xs (2 * i) z.re) (2 * i + 1) z.im) ≡ set (samples xs) i z
unfolding samples
samples-set [] i z h = absurd (omega arith)
samples-set (x ∷ []) i z h = absurd (omega arith)
samples-set (x ∷ y ∷ l) zero z h = refl
samples-set (x ∷ y ∷ l) (suc i) z h =
    let g : suc (suc (2 * i)) + 1 ≡ suc (suc (2 * i + 1)) = omega arith in
    rw (twice-suc i, g) (ap (λ (m : List C32). record { re = x; im = y } ∷ m) (samples-set l i z (omega arith)))

-- ---- a part
pub samples-take : (n : ℕ) (xs : List Float) → samples (take (2 * n) xs) ≡ take n (samples xs)
unfolding samples
samples-take zero xs = refl
samples-take (suc n) [] = rw (twice-suc n)
samples-take (suc n) (x ∷ []) = rw (twice-suc n)
samples-take (suc n) (x ∷ y ∷ l) = rw (twice-suc n) (ap (λ (m : List C32). record { re = x; im = y } ∷ m) (samples-take n l))

pub samples-drop : (n : ℕ) (xs : List Float) → samples (drop (2 * n) xs) ≡ drop n (samples xs)
unfolding samples
samples-drop zero xs = refl
samples-drop (suc n) [] = rw (twice-suc n)
samples-drop (suc n) (x ∷ []) = rw (twice-suc n) (nothing (2 * n))
  where
    nothing : (i : ℕ) → samples (drop (suc i) []) ≡ []
    nothing i = refl
samples-drop (suc n) (x ∷ y ∷ l) = rw (twice-suc n) (samples-drop n l)

pub samples-append : (xs ys : List Float) → length xs % 2 ≡ 0 → samples (xs ++ ys) ≡ samples xs ++ samples ys
unfolding samples
samples-append [] ys h = refl
samples-append (x ∷ []) ys h = absurd (omega arith)
samples-append (x ∷ y ∷ l) ys h = ap (λ (m : List C32). record { re = x; im = y } ∷ m) (samples-append l ys (omega arith))

-- what is left of whole samples, and others behind it
pub samples-rest : (n : ℕ) (xs ys : List Float) → length xs % 2 ≡ 0 → samples (drop (2 * n) xs ++ ys) ≡ drop n (samples xs) ++ samples ys
samples-rest n xs ys even = samples-append (drop (2 * n) xs) ys (omega (arith, length-drop (2 * n) xs)) ∙ ap (λ (l : List C32). l ++ samples ys) (samples-drop n xs)

-- ---- a sample is stored
pub stored-sets : (ys : List Float) (k : ℕ) (y : C32) → k < length ys / 2 → stored ys k y ≡ sets ys (2 * k) (y.re ∷ y.im ∷ [])
stored-sets ys k y h = rw (lt-ltb k (length ys / 2) h)

pub stored_past : (ys : List Float) (k : ℕ) (y : C32) → length ys / 2 ≤ k → stored ys k y ≡ ys
stored_past ys k y h = rw (le-ltb k (length ys / 2) h)
