-- P8: how many symbols read none. Definitions only.
use Rattle.std.specs.Prelude.{ℕ, ◌+◌, cond, List, [], ◌∷◌}
use mathlib.Core.List.{foldl}
use Rattle.values.specs.declared.sample.C32.{C32}
use Rattle.values.specs.Counter.{count_after}
use Rattle.symbol_numbers.specs.Symbol.{no_symbol}

-- one symbol more
abbrev pub none_after : ℕ → C32 → ℕ
none_after n y = cond (no_symbol y) (count_after n 1) n

-- symbols behind those before
abbrev pub none_with : ℕ → List C32 → ℕ
none_with n l = foldl none_after n l

-- ---- how many there are in a list
unfoldable pub none_in : List C32 → ℕ
none_in [] = 0
none_in (y ∷ l) = cond (no_symbol y) 1 0 + none_in l
