-- P8: symbols as text: a digit for each, or a minus sign, in lines of 64. Definitions only.
use Rattle.std.specs.Prelude.{ℕ, ◌+◌, ◌%◌, cond, List, [], ◌∷◌, map, take, ◌==◌, Float, Some, None}
use Rattle.values.specs.declared.sample.C32.{C32}
use Rattle.values.specs.Samples.{samples}
use Rattle.constellations.specs.declared.kinds.CostasConstellation.{CostasConstellation}
use Rattle.symbol_numbers.specs.Symbol.{SymbolNumber, symbol_of}

-- the digit of a symbol's number, in ASCII; 45 is the minus sign
abbrev pub digit_by : SymbolNumber → ℕ
digit_by (Some n) = 48 + n
digit_by None = 45

abbrev pub digit_of : CostasConstellation → C32 → ℕ
digit_of k y = digit_by (symbol_of k y)

-- the digits of the first n samples of an output
abbrev pub digits : CostasConstellation → List Float → ℕ → List ℕ
digits k ys n = map (digit_of k) (take n (samples ys))

-- digits of which n stand in the text already: a line end (10) follows every 64th
unfoldable pub lined : ℕ → List ℕ → List ℕ
lined n [] = []
lined n (d ∷ ds) = cond (n % 64 == 63) (d ∷ 10 ∷ lined (n + 1) ds) (d ∷ lined (n + 1) ds)
