-- P8: the count of symbols that read none is how many there are, and stops at 2^64 - 1. Assumes nothing.
use Rattle.std.proofs.Common.{◌≡◌, ℕ, ◌+◌, ◌-◌, ◌^◌, ◌<◌, min, Bool, true, false, cond, List, [], ◌∷◌, arith}
use Rattle.values.specs.declared.sample.C32.{C32}
use Rattle.values.specs.Counter.{count_after}
use Rattle.values.proofs.Laws.Counter.{count-stops}
use Rattle.symbol_numbers.specs.Symbol.{no_symbol}
use Rattle.recordings.specs.None.{none_after, none_with, none_in}

pub none-counted : (n : ℕ) (l : List C32) → n < 2 ^ 64 → none_with n l ≡ min (n + none_in l) (2 ^ 64 - 1)
unfolding none_in
none-counted n [] h = omega arith
none-counted n (y ∷ l) h = by (no_symbol y) (none-counted (none_after n y) l)
  where
    by : (none : Bool) → let k = cond none (count_after n 1) n in (k < 2 ^ 64 → none_with k l ≡ min (k + none_in l) (2 ^ 64 - 1)) → none_with k l ≡ min (n + (cond none 1 0 + none_in l)) (2 ^ 64 - 1)
    by true f = let e = count-stops n 1 in let g = f (omega arith) in omega arith
    by false f = let g = f (omega arith) in omega arith
