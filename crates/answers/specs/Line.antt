-- A recorded line: a letter and three words, each after a space, and a line end. Definitions only.
use Rattle.std.specs.Prelude.{ℕ, Bool, cond, ◌&&◌, List, length, take, drop, ◌==◌, slice_index, Option, Some, None}
use Rattle.answers.specs.Hex.{Word, word_of}
use Rattle.answers.specs.declared.line.Operation.{Operation}

-- what a line asks, or none where it is malformed
abbrev pub Reading : Type 0
Reading = Option Operation

-- the word that starts at a place
abbrev pub word_at : List ℕ → ℕ → Word
word_at l i = word_of (take 16 (drop i l))

-- a space (32) or a line end (10) where each belongs
abbrev pub spaced : ℕ → ℕ → ℕ → ℕ → Bool
spaced a b c end = ((a == 32 && b == 32) && c == 32) && end == 10

-- 53 bytes, with the spaces and the line end in place
abbrev pub formed : List ℕ → Bool
formed l = length l == 53 && spaced (slice_index l 1) (slice_index l 18) (slice_index l 35) (slice_index l 52)

abbrev pub asking : ℕ → Word → Word → Word → Reading
asking c (Some x) (Some y) (Some z) = Some (record { letter = c; x = x; y = y; answer = z })
asking c (Some x) (Some y) None = None
asking c (Some x) None w = None
asking c None v w = None

unfoldable pub reading_of : List ℕ → Reading
reading_of l = cond (formed l) (asking (slice_index l 0) (word_at l 2) (word_at l 19) (word_at l 36)) None

-- no letter for a malformed line
abbrev pub asked : Reading → Operation
asked (Some op) = op
asked None = record { letter = 0; x = 0; y = 0; answer = 0 }

-- whether a line has these three words
abbrev pub has : Operation → ℕ → ℕ → ℕ → Bool
has op x y z = x == op.x && (y == op.y && z == op.answer)
