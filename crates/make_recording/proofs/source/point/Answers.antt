-- `make_recording::source::point` meets its contract: the four points are the quarter turns of the first.
-- Assumes nothing.
use Rattle.std.proofs.Common.{◌≡◌, ℕ, ◌/◌, ◌^◌, sym, ap, arith}
use lib.Ieee.{of_bits, neg}
use Rattle.ieee.specs.Notation.{one₀}
use Rattle.values.specs.declared.sample.C32.{C32}
use Rattle.values.specs.Turn.{turns}
use Rattle.make_recording.proofs.source.point.Goals as goal

-- the first point, n quarter turns on
abbrev turned : ℕ → C32
turned n = turns n (record { re = one₀; im = one₀ })

pub returns-in-0 : goal.returns-in-0
unfolding turns of_bits neg
returns-in-0 c = sym (ap turned c.in-0.is)

pub returns-in-1 : goal.returns-in-1
unfolding turns of_bits neg
returns-in-1 c = sym (ap turned c.in-1.is)

pub returns-in-2 : goal.returns-in-2
unfolding turns of_bits neg
returns-in-2 c = sym (ap turned c.in-2.is)

pub returns-in_default : goal.returns-in_default
unfolding turns of_bits neg
returns-in_default c =
    let last : c.args.state / 2 ^ 30 ≡ 3 = omega arith in
    sym (ap turned last)
