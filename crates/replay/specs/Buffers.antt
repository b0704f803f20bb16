-- When a recorded line agrees with the output that the calls before it left. Definitions only.
use Rattle.std.specs.Prelude.{ℕ, ◌+◌, ◌*◌, ◌^◌, Bool, true, false, cond, List, ◌==◌, nat_lt, slice_index_or, to_bits, Float}
use Rattle.std.specs.Float.{binary32, nan}
use Rattle.answers.specs.declared.line.Operation.{Operation}
use Rattle.answers.specs.Line.{has}
use Rattle.replay.specs.declared.buffers.Buffers.{Buffers}

-- six f32 of a line, two in each word, the first in its high half
abbrev pub two_at : List Float → ℕ → ℕ
two_at l k = to_bits binary32 (slice_index_or l k nan) * 2 ^ 32 + to_bits binary32 (slice_index_or l (k + 1) nan)

abbrev pub same_six : List Float → ℕ → Operation → Bool
same_six l k op = has op (two_at l k) (two_at l (k + 2)) (two_at l (k + 4))

-- where six f32 stand, by the count so far: at the end, if there is no room
abbrev pub six_at : ℕ → ℕ
six_at n = cond (nat_lt 186 n) 186 n

-- by the letter: v, i, o, r, z or another
abbrev pub by_letter : {A : Type 0} → ℕ → A → A → A → A → A → A → A
by_letter c v i o r z other = cond (c == 118) v (cond (c == 105) i (cond (c == 111) o (cond (c == 114) r (cond (c == 122) z other))))

-- false where the state has to say so
abbrev pub agreed : Operation → Buffers → Bool
agreed op b = by_letter op.letter true true (same_six b.output (six_at b.compared) op) false (has op 0 0 0) false
