-- `constellations::octants::octant` meets its contract: the sum of its four terms is the octant, and so no part of it
-- overflows. Assumes nothing.
use mathlib.Core.Path.{◌∙◌}
use Prim.Native.Nat.{◌+◌}
use native.Mathlib.Omega.{arith}
use lib.Ieee.{of_bits}
use Rattle.values.specs.declared.sample.C32.{C32}
use Rattle.constellations.proofs.Laws.Octant.{octant-below, octant-sum}
use Rattle.constellations.proofs.octants.octant.Goals as goal

abbrev sample : goal.After-half-q3 → C32
sample c = c.args.y

pub returns : goal.returns
unfolding of_bits
returns c =
    (λ j. (c.half-q0.ensures j + c.half-q1.ensures j) + (c.half-q2.ensures j + c.half-q3.ensures j))
    ∙ octant-sum (sample c) c.size-ar.ensures c.size-ai.ensures

pub overflow_add-result-3 : goal.overflow_add-result-3
overflow_add-result-3 c = omega (arith, returns c, octant-below (sample c))
