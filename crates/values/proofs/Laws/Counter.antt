-- R18: a count is the sum up to 2^64 - 1 and stops there; so it stays in 64 bits, nothing more leaves it as it is, and
-- some more and then others are all of them. Assumes nothing.
use mathlib.Core.Path.{◌≡◌}
use Prim.Native.Nat.{ℕ, ◌+◌, ◌-◌, ◌<◌, ◌^◌, min}
use native.Mathlib.Omega.{arith}
use Rattle.values.specs.Counter.{count_after}

pub count-stops : (count n : ℕ) → count_after count n ≡ min (count + n) (2 ^ 64 - 1)
unfolding count_after
count-stops count n = omega arith

pub count-below : (count n : ℕ) → count_after count n < 2 ^ 64
count-below count n = let h = count-stops count n in omega arith

pub count_none : (count : ℕ) → count < 2 ^ 64 → count_after count 0 ≡ count
count_none count h = let e = count-stops count 0 in omega arith

pub count-twice : (count a b : ℕ) → count_after (count_after count a) b ≡ count_after count (a + b)
count-twice count a b =
    let first = count-stops count a in
    let then = count-stops (count_after count a) b in
    let both = count-stops count (a + b) in
    omega arith
