-- The carrier loop has one output sample for each input sample, in a run and in what a call writes. Assumes nothing.
use Rattle.std.proofs.Common.{◌≡◌, suc, ◌%◌, List, [], ◌∷◌, length, refl, ap, arith}
use lib.Ieee.{Float}
use Rattle.values.specs.declared.sample.C32.{C32}
use Rattle.values.specs.Samples.{samples}
use Rattle.values.proofs.Laws.Samples.{length-samples, length-parts}
use Rattle.cosine.specs.Table.{cos_list}
use Rattle.constellations.specs.declared.kinds.CostasConstellation.{CostasConstellation}
use Rattle.carrier.specs.declared.params.Params.{Params}
use Rattle.carrier.specs.declared.symbol.Track.{Track}
use Rattle.carrier.specs.declared.state.CostasState.{CostasState}
use Rattle.carrier.specs.Step.{stepped, output_of, runs}
use Rattle.carrier.specs.Run.{symbols, done}

pub runs-count : (table : List Float) (c : CostasConstellation) (p : Params) (t : Track) (l : List C32) → length (runs table c p t l).values ≡ length l
unfolding runs
runs-count table c p t [] = refl
runs-count table c p t (x ∷ l) = ap suc (runs-count table c p (stepped c p t (output_of table t x)) l)

pub done-length : (s : CostasState) (xs : List Float) → length xs % 2 ≡ 0 → length (done s xs).output ≡ length xs
done-length s xs h = omega (arith, length-parts (symbols s xs).values, runs-count cos_list s.constellation s.params s.track (samples xs), length-samples xs)
