-- `little_endian::read_samples` meets its contract. The loop's invariant: the first k f32 of the bytes stand at the
-- front of the slice. Assumes nothing.
use Rattle.std.proofs.Common.{refl, arith}
use Rattle.ieee.specs.Notation.{zero₀}
use Rattle.little_endian.specs.Samples.{floats}
use Rattle.lists.proofs.Laws.Stores.{one_more}
use Rattle.little_endian.proofs.Laws.Floats.{length-floats}
use Rattle.little_endian.proofs.samples.read_samples.Goals as goal

pub loop-k-preserved : goal.loop-k-preserved
loop-k-preserved c =
    let a = c.args in
    let t = c.loop-k in
    one_more a.samples.now (floats a.bytes.now) t.k zero₀ (let n = length-floats a.bytes.now in omega arith) t.invariant c.f32_at.ensures refl
