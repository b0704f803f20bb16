-- A11 and C22: what the original checks while it runs, and answers `Internal` where a table has no such entry.
-- Definitions only.
use Rattle.std.specs.Prelude.{◌+◌, ◌/◌, ◌^◌, ◌<◌, true, T, List, [], ◌∷◌, length}
use Rattle.values.specs.declared.sample.C32.{C32}
use Rattle.cosine.specs.Table.{cos_list}
use Rattle.mix.specs.Oscillator.{quarter_before}
use Rattle.constellations.specs.declared.kinds.CostasConstellation.{CostasConstellation}
use Rattle.constellations.specs.Octant.{points8, octant_of}
use Rattle.carrier.specs.declared.params.Params.{Params}
use Rattle.carrier.specs.declared.symbol.Track.{Track}
use Rattle.carrier.specs.Step.{output_of, stepped}

-- the checks of one symbol, made of the sample x
pub record Inside (t : Track) (x : C32) : Type 0 where
  -- `interp_f32_pair`: the entries on both sides of the phase
  pub cosine : t.nco.phase / 2 ^ 20 + 1 < length cos_list
  -- and on both sides of the phase a quarter turn before
  pub sine : quarter_before (t.nco.phase / 2 ^ 20) + 1 < length cos_list
  -- `POINTS8`: the octant of the output
  pub point : octant_of (output_of cos_list t x) < length points8

-- those of each symbol of a run
unfoldable pub InsideRun : CostasConstellation → Params → Track → List C32 → Type 0
InsideRun c p t [] = T true
InsideRun c p t (x ∷ xs) = Inside t x × InsideRun c p (stepped c p t (output_of cos_list t x)) xs
