-- The loop of `tape_replay::play_frames`: so many frames are counted as there were turns.
use Rattle.std.proofs.Common.{◌≡◌}
use Rattle.replay.specs.Tally.{none_counted, Tallied}
use Rattle.tape_replay.proofs.play_frames.Given as goal

abbrev pub invariant-loop : goal.invariant-loop
invariant-loop g l = record { turns : l.counts.frames ≡ l.counter; tallied : Tallied l.counts.frames none_counted l.counts.tally }
