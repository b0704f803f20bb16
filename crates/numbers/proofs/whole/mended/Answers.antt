-- `numbers::whole::mended` meets its contract: m is x, or lies beside it. Assumes nothing.
use lib.Dec.{T}
use lib.Ieee.{binary64, fits}
use Rattle.ieee.proofs.Laws.Test.{yes, no}
use Rattle.numbers.proofs.Laws.Beside.{floor-equal, floor-off}
use Rattle.numbers.proofs.whole.mended.Goals as goal

pub returns-then-m-x : goal.returns-then-m-x
returns-then-m-x c =
    let h : T (fits binary64 c.args.x) = yes c.well_formed.1.0.1 in
    floor-equal c.args.x h c.requires.lower_bound c.requires.upper_bound _ c.requires.beside (yes c.if-m-x.true)

pub returns : goal.returns
returns c =
    let h : T (fits binary64 c.args.x) = yes c.well_formed.1.0.1 in
    floor-off c.args.x h c.requires.lower_bound c.requires.upper_bound _ _ c.requires.beside (no c.if-m-x.false) c.above.ensures
