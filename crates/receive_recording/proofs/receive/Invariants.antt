-- A set-up or a call has given the receiver.
use Rattle.receiver.specs.Record.{Given}
use Rattle.receive_recording.proofs.receive.Given as goal

abbrev pub invariant-loop : goal.invariant-loop
invariant-loop g l = Given l.sofar.0
