-- How far a tape is played lies within it, and what it has written within the output. Definitions only.
use Rattle.std.specs.Prelude.{ℕ, ◌+◌, ◌≤◌}
use Rattle.std.specs.declared.ops.ControlFlow.{ControlFlow}
use Rattle.std.specs.ControlFlow.{MatchControlFlow}
use Rattle.tape.specs.Desk.{Given}
use Rattle.tape_replay.specs.declared.frame.Ending.{Ending}
use Rattle.tape_replay.specs.declared.play.Playing.{Playing}

-- of a tape of n bytes and an output of m
abbrev pub Within : Playing → ℕ → ℕ → Type 0
Within s n m = Given s.desk × (s.at + s.held ≤ n) × (s.written ≤ m)

abbrev pub TurnWithin : ControlFlow Ending Playing → ℕ → ℕ → Type 0
TurnWithin r n m = MatchControlFlow r (λ s. Within s n m) (λ e. e.output ≤ m)
