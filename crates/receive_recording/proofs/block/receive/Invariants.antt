-- What the definition makes of the rest of the block is what it makes of the whole.
use Rattle.std.proofs.Common.{◌-◌, length}
use Rattle.receive_recording.proofs.Laws.Block.{Underway}
use Rattle.receive_recording.proofs.block.receive.Given as goal

abbrev pub invariant-loop-made : goal.invariant-loop-made
invariant-loop-made g l = Underway l.input l.initial.receiver l.receiver l.initial.none l.none l.at (length l.input - l._made)
