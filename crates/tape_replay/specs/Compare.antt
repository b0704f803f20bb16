-- When a tape has ended as its frame says, and where that is counted. Definitions only.
use Rattle.std.specs.Prelude.{ℕ, ◌+◌, Bool, cond, ◌&&◌, List, take, drop, ◌==◌, nat_lt}
use Rattle.answers.specs.Slices.{same_words}
use Rattle.tape_replay.specs.declared.frame.Ending.{Ending}
use Rattle.tape_replay.specs.declared.frame.Frame.{Frame}
use Rattle.tape_replay.specs.declared.play.Twice.{Twice}

-- the output that stands in the frame at the front of l
abbrev pub recorded : Frame → List ℕ → List ℕ
recorded f l = take f.ending.output (drop (f.tape + 16) l)

-- the number, the stopping place and every byte of the output
unfoldable pub agreed : Frame → List ℕ → Ending → List ℕ → Bool
agreed f l e ys =
    (e.number == f.ending.number)
    && (e.place == f.ending.place
    && same_words (take e.output ys) (recorded f l))

-- both times
abbrev pub agreed_twice : Frame → List ℕ → Twice → Bool
agreed_twice f l t = agreed f l t.at_once.ending t.at_once.output && agreed f l t.by_field.ending t.by_field.output

-- a number's place in the tally: itself, and the malformed lines' where there is no such number
abbrev pub number_place : ℕ → ℕ
number_place n = cond (nat_lt n 12) n 12
