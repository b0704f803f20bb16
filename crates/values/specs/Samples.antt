-- A1: the complex samples in a slice of f32. Definitions only.
use Rattle.std.specs.Prelude.{ℕ, ◌*◌, ◌/◌, cond, List, [], ◌∷◌, ltb, length, Float}
use Rattle.std.proofs.lemmas.List.Edits.{sets}
use Rattle.ieee.specs.Notation.{zero₀}
use Rattle.values.specs.declared.sample.C32.{C32}

abbrev pub silence : C32
silence = record { re = zero₀; im = zero₀ }

-- A1: the samples of a slice; a last f32 that has no partner is left out
unfoldable pub samples : List Float → List C32
samples [] = []
samples (x ∷ []) = []
samples (x ∷ y ∷ l) = record { re = x; im = y } ∷ samples l

-- the slice that holds these samples
unfoldable pub parts : List C32 → List Float
parts [] = []
parts (z ∷ l) = z.re ∷ z.im ∷ parts l

-- the slice with y as its sample k, if it has one
abbrev pub stored : List Float → ℕ → C32 → List Float
stored ys k y = cond (ltb k (length ys / 2)) (sets ys (2 * k) (y.re ∷ y.im ∷ [])) ys
