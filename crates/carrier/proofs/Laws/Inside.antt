-- A11 and C22: the original's `Internal` errors never occur, since in every run from a given state each index lies
-- inside its table. Assumes nothing.
use Rattle.std.proofs.Common.{◌≡◌, List, [], ◌∷◌, length, refl, arith}
use lib.Ieee.{Float}
use Rattle.values.specs.declared.sample.C32.{C32}
use Rattle.values.specs.Samples.{samples}
use Rattle.cosine.specs.Table.{cos_list}
use Rattle.cosine.proofs.Laws.Rules.{length-cos}
use Rattle.constellations.specs.declared.kinds.CostasConstellation.{CostasConstellation}
use Rattle.constellations.specs.Octant.{points8}
use Rattle.constellations.proofs.Laws.Octant.{octant-below}
use Rattle.carrier.specs.declared.params.Params.{Params}
use Rattle.carrier.specs.declared.state.CostasState.{CostasState}
use Rattle.carrier.specs.declared.symbol.Track.{Track}
use Rattle.carrier.specs.Inside.{Inside, InsideRun}
use Rattle.carrier.specs.State.{Given}
use Rattle.carrier.specs.Step.{output_of, stepped}
use Rattle.carrier.proofs.Laws.Setup.{Limits, limits}
use Rattle.carrier.proofs.Laws.Given.{Kept, stepped_kept}

-- ---- the length of the eight points
points : length points8 ≡ 8
unfolding points8
points = refl

-- ---- a symbol, then a run
kept-inside : (p : Params) (t : Track) (x : C32) → Kept p t.nco → Inside t x
kept-inside p t x k =
    record {
      cosine = omega (arith, length-cos, k.phase-in);
      sine = omega (arith, length-cos, k.phase-in);
      point = omega (arith, points, octant-below (output_of cos_list t x));
    }

runs-inside : (c : CostasConstellation) (p : Params) (t : Track) (xs : List C32) → Limits p → Kept p t.nco → InsideRun c p t xs
unfolding InsideRun
runs-inside c p t [] l k = tt
runs-inside c p t (x ∷ xs) l k = let y = output_of cos_list t x in (kept-inside p t x k, runs-inside c p (stepped c p t y) xs l (stepped_kept c p t y l k))

pub inside : (s : CostasState) → Given s → (xs : List Float) → InsideRun s.constellation s.params s.track (samples xs)
inside s g xs = runs-inside s.constellation s.params s.track (samples xs) (limits s.constellation s.params g.accepted) (record { phase-in = g.phase-in; freq-low = g.freq-low; freq-high = g.freq-high })
