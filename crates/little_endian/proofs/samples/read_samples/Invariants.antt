-- The first k f32 of the bytes stand at the front of the slice.
use Rattle.std.proofs.Common.{take}
use Rattle.lists.proofs.Laws.Stores.{Stored}
use Rattle.little_endian.specs.Samples.{floats}
use Rattle.little_endian.proofs.samples.read_samples.Given as goal

abbrev pub invariant-loop-k : goal.invariant-loop-k
invariant-loop-k l = Stored l.initial.samples (take l.k (floats l.bytes)) l.samples
