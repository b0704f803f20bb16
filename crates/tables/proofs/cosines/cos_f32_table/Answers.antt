-- `tables::cosines::cos_f32_table` meets its contract: the code's table is the definition's list, entry by entry, as
-- antt computes it. Assumes nothing.
use mathlib.Core.Path.{refl}
use Rattle.cosine.specs.Bits.{cos_bits}
use Rattle.cosine.specs.Table.{cos_list}
use Rattle.tables.proofs.cosines.cos_f32_table.Goals as goal

pub returns : goal.returns
unfolding cos_bits cos_list
returns c = refl
