-- A count of 64 bits that stops at its top. Definitions only.
use Rattle.std.specs.Prelude.{ℕ, ◌+◌, min}

-- R18: the largest count
abbrev pub top : ℕ
top = 0xffffffffffffffff

-- R18: the count after n more
unfoldable pub count_after : ℕ → ℕ → ℕ
count_after count n = min (count + n) top
