-- The loop of `order_tape::command::read`: no byte behind the command is read, and no symbol is written. The measure is
-- how many bytes may follow.
use Prim.Native.Nat.{◌-◌}
use Rattle.order_tape.proofs.Laws.Command.{Underway}
use Rattle.order_tape.proofs.command.read.Given as goal

abbrev pub invariant-loop-k : goal.invariant-loop-k
invariant-loop-k g l = Underway l.desk l.initial.bytes l.initial.symbols l.bytes l.symbols l.read

abbrev pub decreases-loop-k : goal.decreases-loop-k
decreases-loop-k g l = 16387 - l.read
