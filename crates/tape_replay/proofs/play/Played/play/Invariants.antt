-- The loop of `tape_replay::play::play`: how far the tape is played lies within it and the output.
use Rattle.std.proofs.Common.{length}
use Rattle.tape_replay.specs.Play.{Within}
use Rattle.tape_replay.proofs.play.Played.play.Given as goal

abbrev pub invariant-loop-calls : goal.invariant-loop-calls
invariant-loop-calls g l = Within l.s (length l.tape) (length l.self.output)
