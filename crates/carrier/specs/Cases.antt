-- X9 to X12, X18 and X19: two octants, two of QPSK's measures, and the lock at both of its levels. (The phase steps
-- are in `modulate`.) Definitions only.
use Rattle.std.specs.Prelude.{◌≡◌, Bool, true, false, from_bits, Float, Some, None}
use Rattle.std.specs.Float.{binary32}
use Rattle.ieee.specs.Notation.{zero₀, half₀, one₀, decimal}
use Rattle.values.specs.declared.sample.C32.{C32}
use Rattle.values.specs.Samples.{silence}
use Rattle.constellations.specs.declared.kinds.CostasConstellation.TheVariants.{Qpsk}
use Rattle.detectors.specs.Lock.{Metric, metric_of, lock_after}
use Rattle.constellations.specs.Octant.{octant_of, decision_of}

-- (1, 1) and (0, 1)
abbrev diagonal : C32
diagonal = record { re = one₀; im = one₀ }

abbrev upright : C32
upright = record { re = zero₀; im = one₀ }

abbrev qpsk_metric : C32 → Metric
qpsk_metric y = metric_of Qpsk y (decision_of Qpsk y)

-- the f32 next above 0.5 and the one next below 0.3
abbrev above_half : Float
above_half = from_bits binary32 0x3f000001

abbrev below-three-tenths : Float
below-three-tenths = from_bits binary32 0x3e999999

pub record Cases : Type 0 where
  -- X9: (1, 1)
  pub octant-diagonal : octant_of diagonal ≡ 1
  -- X10: (0, 1)
  pub octant-upright : octant_of upright ≡ 2
  -- X11: the measure of (1, 1)
  pub qpsk-diagonal : qpsk_metric diagonal ≡ Some one₀
  -- X12: silence has no measure
  pub qpsk-silence : qpsk_metric silence ≡ None
  -- X18: exactly 0.5 leaves the lock as it was
  pub half_keeps : (was : Bool) → lock_after was half₀ ≡ was
  -- X19: and so does exactly 0.3
  pub three-tenths-keeps : (was : Bool) → lock_after was (decimal binary32 3 10) ≡ was
  -- C20: the next f32 above sets lock
  pub above-half-sets : (was : Bool) → lock_after was above_half ≡ true
  -- C20: the next f32 below clears it
  pub below-three-tenths-clears : (was : Bool) → lock_after was below-three-tenths ≡ false
