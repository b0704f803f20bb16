-- The bytes of the first k f32 stand at the front.
use Rattle.std.proofs.Common.{take}
use Rattle.lists.proofs.Laws.Stores.{Stored}
use Rattle.little_endian.specs.Samples as spec
use Rattle.little_endian.proofs.samples.write_samples.Given as goal

abbrev pub invariant-loop-k : goal.invariant-loop-k
invariant-loop-k l = Stored l.initial.bytes (spec.bytes (take l.k l.samples)) l.bytes
