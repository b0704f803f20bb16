-- C23: the loop from symbol to symbol. Definitions only.
use Rattle.std.specs.Prelude.{List, [], ◌∷◌, Float}
use Rattle.values.specs.declared.sample.C32.{C32}
use Rattle.mix.specs.Oscillator.{pair_at}
use Rattle.constellations.specs.declared.kinds.CostasConstellation.{CostasConstellation}
use Rattle.carrier.specs.declared.params.Params.{Params}
use Rattle.carrier.specs.declared.symbol.Track.{Track}
use Rattle.constellations.specs.Octant.{decision_of}
use Rattle.detectors.specs.Detector.{derotated, error_of}
use Rattle.detectors.specs.Lock.{metric_of, watched}
use Rattle.carrier.specs.Filter.{advanced}

-- C23: the loop after the output sample y: C16 to C18, then C19 and C20
unfoldable pub stepped : CostasConstellation → Params → Track → C32 → Track
stepped c p t y = record { nco = advanced p t.nco (error_of c y); lock = watched t.lock (metric_of c y (decision_of c y)) }

-- C13: the output sample of the input x, at the phase of the oscillator (C12)
abbrev pub output_of : List Float → Track → C32 → C32
output_of table t x = derotated x (pair_at table t.nco.phase)

-- ---- a run over a list of symbols
pub record Symbols : Type 0 where
  pub values : List C32
  pub last : Track

unfoldable pub runs : List Float → CostasConstellation → Params → Track → List C32 → Symbols
runs table c p t [] = record { values = []; last = t }
runs table c p t (x ∷ xs) =
    let y = output_of table t x in
    let r = runs table c p (stepped c p t y) xs in
    record { values = y ∷ r.values; last = r.last }
