-- `little_endian::bytes::store_f32` meets its contract: the library's four bytes are those of the definition. Assumes
-- nothing.
use Rattle.std.specs.Float.{binary32}
use Rattle.std.specs.Float.Ieee.{to_bits}
use Rattle.little_endian.proofs.Laws.Floats.{le-bytes, length-four, four-stored}
use Rattle.little_endian.proofs.bytes.store_f32.Goals as goal

pub returns : goal.returns
returns c =
    let a = c.args in
    let n = c.bits_of.result in
    let four = le-bytes n c.bits_of.type_inv in
    four-stored a.bytes.now a.k c.requires (cc) (length-four (to_bits binary32 a.x))
