-- When two lists are equally long and agree at every place. Definitions only.
use Rattle.std.specs.Prelude.{ℕ, Bool, List, ◌==◌, to_bits, Float}
use Rattle.std.specs.Float.{binary32}
use Rattle.std.specs.Cmp.Lexicographic.{pointwise}

-- by the number that each element has
abbrev pub same_by : {A : Type 0} → (A → ℕ) → List A → List A → Bool
same_by f a b = pointwise (λ x y. f x == f y) a b

-- bit for bit
abbrev pub same_floats : List Float → List Float → Bool
same_floats a b = same_by (to_bits binary32) a b

abbrev pub same_words : List ℕ → List ℕ → Bool
same_words a b = same_by (λ n. n) a b
