-- `constellations::octants::point8` meets its contract: the octant is below 8, so that the table is read inside.
-- Assumes nothing.
use mathlib.Core.Path.{ap, ◌∙◌}
use Prim.Native.Nat.{◌<◌}
use native.Mathlib.Omega.{arith}
use lib.Ieee.{of_bits, neg}
use Rattle.std.proofs.lemmas.List.{get_or_default}
use Rattle.constellations.specs.Octant.{points8, point_at}
use Rattle.constellations.proofs.Laws.Octant.{octant-below}
use Rattle.constellations.proofs.octants.point8.Goals as goal

pub offset_bounds-k : goal.offset_bounds-k
offset_bounds-k c = omega (arith, c.octant-k.ensures, octant-below c.args.y)

pub bounds-k-k : goal.bounds-k-k
bounds-k-k c = omega (arith, c.octant-k.ensures, octant-below c.args.y)

pub returns : goal.returns
unfolding points8 of_bits neg
returns c =
    let below : c.octant-k.result < 8 = omega (arith, c.octant-k.ensures, octant-below c.args.y) in
    get_or_default points8 c.octant-k.result _ _ below ∙ ap point_at c.octant-k.ensures
