-- The loop of `order_tape::play`: the buffers keep their lengths, and what is on the desk is given.
use mathlib.Core.Path.{◌≡◌}
use lib.ListN.{length}
use Rattle.tape.specs.Desk.{Given}
use Rattle.order_tape.proofs.play.Given as goal

abbrev pub invariant-loop : goal.invariant-loop
invariant-loop g l = (length l.bytes ≡ 16387) × ((length l.symbols ≡ 16384) × Given l.desk)
