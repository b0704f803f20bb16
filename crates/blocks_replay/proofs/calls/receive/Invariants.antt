-- The receiver is given.
use Rattle.receiver.specs.Record.{Given}
use Rattle.blocks_replay.proofs.calls.receive.Given as goal

abbrev pub invariant-loop : goal.invariant-loop
invariant-loop l = Given l.received.receiver
