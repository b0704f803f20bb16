-- `numbers::whole::floor` meets its contract: from 2^52 up x is its own floor, and below that its floor is found from
-- the whole number beside x. Assumes nothing.
use lib.Dec.{T}
use lib.Ieee.{binary64, of_bits, neg, fits}
use Rattle.ieee.proofs.Laws.Test.{yes, no}
use Rattle.numbers.proofs.Laws.Whole.{far-above, far-below}
use Rattle.numbers.proofs.Laws.Beside.{beside-below, beside-above}
use Rattle.numbers.proofs.whole.floor.Goals as goal
use Rattle.numbers.proofs.whole.floor.Goals.{else-x-via-then-x+else-x-2, else-x-via-else-x}

pub mended-requires : goal.mended-requires
unfolding of_bits neg
mended-requires c =
    let a = yes c.if-x.true in
    let b = yes c.if-x-2.true in
    record { lower_bound = a; upper_bound = b; beside = beside-below c.args.x (yes c.well_formed.0.1) a b (yes c.if-x-3.true) }

pub mended-requires-then-x-2 : goal.mended-requires-then-x-2
unfolding of_bits neg
mended-requires-then-x-2 c =
    let a = yes c.if-x.true in
    let b = yes c.if-x-2.true in
    record { lower_bound = a; upper_bound = b; beside = beside-above c.args.x (yes c.well_formed.0.1) a b (no c.if-x-3.false) }

pub returns : goal.returns
unfolding of_bits neg
returns c =
    let x = c.args.x in
    let h : T (fits binary64 x) = yes c.well_formed.0.1 in
    elim c.else-x.branch [ else-x-via-then-x+else-x-2 w ↦ far-above x h (no w.if-x-2.false) | else-x-via-else-x w ↦ far-below x h (no w.if-x.false) ]
