-- The number that hexadecimal digits spell. Definitions only.
use Rattle.std.specs.Prelude.{ℕ, ◌+◌, ◌-◌, ◌*◌, cond, List, [], ◌∷◌, length, ◌==◌, nat_lt, Option, Some, None}

-- the number that a word spells, or none
abbrev pub Word : Type 0
Word = Option ℕ

-- the value of the digit with this ASCII code, `0` to `9` or `a` to `f`, and 16 for any other byte
abbrev pub value_of : ℕ → ℕ
value_of b = cond (nat_lt b 48) 16 (cond (nat_lt b 58) (b - 48) (cond (nat_lt b 97) 16 (cond (nat_lt b 103) (b - 87) 16)))

-- the same, or none for such a byte
abbrev pub digit_of : ℕ → Option ℕ
digit_of b = cond (nat_lt 15 (value_of b)) None (Some (value_of b))

-- the number that bs spells after digits that spell n
unfoldable pub spelled : List ℕ → ℕ → Word
spelled [] n = Some n
spelled (b ∷ bs) n = cond (nat_lt 15 (value_of b)) None (spelled bs (n * 16 + value_of b))

-- the number that 16 digits spell
unfoldable pub word_of : List ℕ → Word
word_of bs = cond (length bs == 16) (spelled bs 0) None
