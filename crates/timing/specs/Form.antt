-- How samples lie in a slice of f32: one float a sample, or two. Definitions only.
use Rattle.std.specs.Prelude.{ℕ, ◌/◌, List, [], ◌∷◌, Float}
use Rattle.values.specs.declared.sample.C32.{C32}
use Rattle.values.specs.Samples.{samples, parts}

pub record Form (A : Type 0) : Type 0 where
  -- the floats of one sample, and how many they are
  pub floats : A → List Float
  pub width : ℕ
  -- the slice that holds these samples
  pub slice : List A → List Float
  -- the samples of a slice, and how many a slice of n floats has
  pub samples : List Float → List A
  pub count : ℕ → ℕ

-- one float a sample
abbrev pub onefold : Form Float
onefold = record { floats = λ y. y ∷ []; width = 1; slice = λ vs. vs; samples = λ xs. xs; count = λ n. n }

-- two floats a sample
abbrev pub twofold : Form C32
twofold = record { floats = λ y. y.re ∷ y.im ∷ []; width = 2; slice = parts; samples = samples; count = λ n. n / 2 }
