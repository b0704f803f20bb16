-- A frame of the input: how it is read, and when it lies within so many bytes. Definitions only.
use Rattle.std.specs.Prelude.{ℕ, ◌+◌, ◌≤◌, true, cond, T, List, length, take, drop, nat_lt, Option, Some, None}
use Rattle.little_endian.specs.Bytes.{little_endian}
use Rattle.tape_replay.specs.declared.frame.Frame.{Frame}

-- the frame that was read, or none where it is malformed
abbrev pub Reading : Type 0
Reading = Option Frame

-- the number in the four bytes from a place on
abbrev pub word_at : List ℕ → ℕ → ℕ
word_at l k = little_endian (take 4 (drop k l))

-- a frame whose tape has t bytes and whose output has o
abbrev pub frame_of : List ℕ → ℕ → ℕ → Frame
frame_of l t o = record { tape = t; ending = record { number = word_at l (t + 4); place = word_at l (t + 8); output = o } }

-- neither is longer than 65,536 bytes, and both are there
abbrev pub with_output : List ℕ → ℕ → ℕ → Reading
with_output l t o = cond (nat_lt 65536 o) None (cond (nat_lt (length l) (t + 16 + o)) None (Some (frame_of l t o)))

abbrev pub with_tape : List ℕ → ℕ → Reading
with_tape l t =
    cond (nat_lt 65536 t) None (cond (nat_lt (length l) (t + 16)) None (with_output l t (word_at l (t + 12))))

unfoldable pub reading_of : List ℕ → Reading
reading_of l = cond (nat_lt (length l) 4) None (with_tape l (word_at l 0))

-- four numbers, the tape and the output are no more than n bytes
abbrev pub FrameFits : Frame → ℕ → Type 0
FrameFits f n = f.tape + 16 + f.ending.output ≤ n

abbrev pub Fits : Reading → ℕ → Type 0
Fits (Some f) n = FrameFits f n
Fits None n = T true
