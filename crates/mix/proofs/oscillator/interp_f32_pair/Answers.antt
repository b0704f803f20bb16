-- `mix::oscillator::interp_f32_pair` meets its contract: the indices lie inside the table, and the fraction is the
-- definition's. Assumes nothing.
use Rattle.std.proofs.Common.{◌≡◌, ℕ, ◌+◌, ◌*◌, ◌/◌, ◌%◌, ◌^◌, List, ap, ◌∙◌, arith}
use lib.Ieee.{Float, binary32, sub, of_bits}
use Rattle.ieee.proofs.Laws.Nan.{not-above}
use Rattle.mix.specs.Oscillator.{between, quarter_before}
use Rattle.mix.specs.declared.oscillator.Pair.{Pair}
use Rattle.mix.proofs.Laws.Fraction.{fraction-is}
use Rattle.mix.proofs.oscillator.interp_f32_pair.Goals as goal

pub float_from_bits-f : goal.float_from_bits-f
float_from_bits-f c = not-above binary32 _ (omega arith)

pub returns : goal.returns
returns c =
    let args = c.args in
    let table = args.table.now in
    let idx = args.p / 2 ^ 20 in
    let after = c.wrapping_sub_u32 in
    let sidx : after.result / 2 ^ 20 ≡ quarter_before idx = omega (arith, after.ensures) in
    let f = sub binary32 (of_bits binary32 (args.p % 2 ^ 20 * 8 + 127 * 2 ^ 23)) (of_bits binary32 (127 * 2 ^ 23)) in
    ap (λ (j : ℕ). pair table idx j f) sidx ∙ ap (pair table idx (quarter_before idx)) (fraction-is args.p)
  where
    pair : List Float → ℕ → ℕ → Float → Pair
    pair table i j f = record { c = between table i f; s = between table j f }
