-- `recordings::thousandths` meets its contract, by the two tests. Assumes nothing.
use lib.Ieee.{of_bits, neg}
use Rattle.ieee.proofs.Laws.Test.{yes}
use Rattle.recordings.specs.Thousandths.{thousandths_of}
use Rattle.recordings.proofs.decimals.thousandths.Goals as goal
use Rattle.recordings.proofs.decimals.thousandths.Goals.{else-t-via-then-t+else-t-2, else-t-via-else-t}

pub truncating_f64_to_u64-requires : goal.truncating_f64_to_u64-requires
unfolding of_bits neg
truncating_f64_to_u64-requires c = record { lower_bound = yes c.if-t.true; upper_bound = yes c.if-t-2.true }

pub returns-then-t-2 : goal.returns-then-t-2
unfolding thousandths_of of_bits neg
returns-then-t-2 c = rw (c.if-t.true, c.if-t-2.true) c.truncating_f64_to_u64.ensures

pub returns-else-t : goal.returns-else-t
unfolding thousandths_of of_bits neg
returns-else-t c =
    elim c.else-t.branch [
      | else-t-via-then-t+else-t-2 w ↦ rw (w.if-t.true, w.if-t-2.false)
      | else-t-via-else-t w ↦ rw w.if-t.false
    ]
