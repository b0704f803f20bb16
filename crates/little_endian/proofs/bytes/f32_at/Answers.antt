-- `little_endian::bytes::f32_at` meets its contract: the four bytes are a part of the slice. Assumes nothing.
use Rattle.std.proofs.Common.{◌∙◌}
use Rattle.little_endian.proofs.Laws.Floats.{part-float}
use Rattle.little_endian.proofs.bytes.f32_at.Goals as goal

pub returns : goal.returns
returns c = c.of_bits.ensures ∙ part-float c.args.bytes.now c.args.k c.requires c.little_endian.ensures.value
