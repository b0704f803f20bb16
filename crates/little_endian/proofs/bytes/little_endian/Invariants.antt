-- What the bytes that are left spell in front of the value is the number of all.
use Rattle.std.proofs.Common.{◌≡◌, take}
use Rattle.little_endian.specs.Bytes.{little_endian}
use Rattle.little_endian.proofs.Laws.LittleEndian.{onto}
use Rattle.little_endian.proofs.bytes.little_endian.Given as goal

abbrev pub invariant-loop-b : goal.invariant-loop-b
invariant-loop-b l = onto l.b-iterator.iter.rest.now l.value ≡ little_endian (take 8 l.bytes)
