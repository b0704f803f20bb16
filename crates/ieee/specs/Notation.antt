-- N1: the notation of all definitions: arithmetic in f32 (round operators) and in f64 (square ones),
-- where each operation rounds once; and numbers that both formats hold. Definitions only.
use Rattle.std.specs.Prelude.{ℕ, false, pos, negsuc, Float}
use Rattle.std.specs.Float.{Format, fin, binary32, binary64}
use Rattle.std.specs.Float.Ieee.{round, add, sub, mul, div}

infixl 60 ◌⊕◌ ◌⊖◌ ◌⊞◌ ◌⊟◌
infixl 70 ◌⊗◌ ◌⊘◌ ◌⊠◌ ◌⧄◌
-- ---- in f32
abbrev pub ◌⊕◌ : Float → Float → Float
x ⊕ y = add binary32 x y

abbrev pub ◌⊖◌ : Float → Float → Float
x ⊖ y = sub binary32 x y

abbrev pub ◌⊗◌ : Float → Float → Float
x ⊗ y = mul binary32 x y

abbrev pub ◌⊘◌ : Float → Float → Float
x ⊘ y = div binary32 x y

-- ---- in f64
abbrev pub ◌⊞◌ : Float → Float → Float
x ⊞ y = add binary64 x y

abbrev pub ◌⊟◌ : Float → Float → Float
x ⊟ y = sub binary64 x y

abbrev pub ◌⊠◌ : Float → Float → Float
x ⊠ y = mul binary64 x y

abbrev pub ◌⧄◌ : Float → Float → Float
x ⧄ y = div binary64 x y

-- ---- numbers that both formats hold
abbrev pub zero₀ : Float
zero₀ = fin false 0 (pos 0)

abbrev pub quarter₀ : Float
quarter₀ = fin false 1 (negsuc 1)

abbrev pub half₀ : Float
half₀ = fin false 1 (negsuc 0)

abbrev pub one₀ : Float
one₀ = fin false 1 (pos 0)

abbrev pub two₀ : Float
two₀ = fin false 1 (pos 1)

abbrev pub three₀ : Float
three₀ = fin false 3 (pos 0)

abbrev pub four₀ : Float
four₀ = fin false 1 (pos 2)

abbrev pub eight₀ : Float
eight₀ = fin false 1 (pos 3)

-- ---- N2: a / b as the nearest number of the format
abbrev pub decimal : Format → ℕ → ℕ → Float
decimal f a b = round f false a b
