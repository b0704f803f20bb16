-- `little_endian::write_samples` meets its contract. The loop's invariant: the bytes of the first k f32 stand at
-- the front. Assumes nothing.
use Rattle.std.proofs.Common.{arith}
use Rattle.std.specs.Float.Ieee.{nan}
use Rattle.lists.proofs.Laws.Stores.{begins}
use Rattle.little_endian.proofs.Laws.Floats.{no_bytes, f32-more}
use Rattle.little_endian.proofs.samples.write_samples.Goals as goal

pub loop-k-init : goal.loop-k-init
loop-k-init c = begins _ (no_bytes c.args.samples.now)

pub loop-k-preserved : goal.loop-k-preserved
loop-k-preserved c =
    let a = c.args in
    let t = c.loop-k in
    f32-more a.bytes.now a.samples.now t.k nan (omega arith) t.invariant c.store_f32.ensures
