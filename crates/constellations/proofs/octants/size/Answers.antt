-- `constellations::octants::size` meets its contract: each arm is what the definition picks there. Assumes nothing.
use mathlib.Core.Path.{sym}
use mathlib.Core.Bool.{cond}
use lib.Ieee.{of_bits, neg}
use Rattle.constellations.specs.Octant.{size_of}
use Rattle.constellations.proofs.octants.size.Goals as goal

pub returns-then-x : goal.returns-then-x
unfolding size_of of_bits
returns-then-x c = let x = c.args.x in λ j. cond (sym c.if-x.true j) (neg x) x

pub returns-else-x : goal.returns-else-x
unfolding size_of of_bits
returns-else-x c = let x = c.args.x in λ j. cond (sym c.if-x.false j) (neg x) x
