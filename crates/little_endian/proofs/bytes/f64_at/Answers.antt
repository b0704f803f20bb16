-- `little_endian::f64_at` meets its contract: the eight bytes are the front of the slice's rest. Assumes nothing.
use Rattle.std.proofs.Common.{ap, ◌∙◌}
use Rattle.std.specs.Float.{binary64}
use Rattle.std.specs.Float.Ieee.{of_bits}
use Rattle.little_endian.proofs.Laws.LittleEndian.{rest-spelled}
use Rattle.little_endian.proofs.bytes.f64_at.Goals as goal

pub returns : goal.returns
returns c = c.of_bits.ensures ∙ ap (of_bits binary64) (c.little_endian.ensures.value ∙ rest-spelled c.args.bytes.now c.args.from c.min-at.ensures)
