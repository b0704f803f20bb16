-- The error of a symbol is finite, and the turns that its constellation allows leave it alike. Assumes nothing.
use Prim.Native.Nat.{ℕ, ◌+◌, ◌*◌}
use lib.Dec.{T}
use lib.Ieee.{Float}
use lib.Ieee.Scale.{finite}
use Rattle.ieee.specs.Alike.{Alike}
use Rattle.ieee.specs.Notation.{zero₀}
use Rattle.ieee.proofs.Laws.Like.{like-refl}
use Rattle.ieee.proofs.Laws.Compare.{like-cond, like-finite}
use Rattle.values.specs.declared.sample.C32.{C32}
use Rattle.numbers.proofs.Laws.Range.{finite-or-zero}
use Rattle.values.specs.Turn.{Turned}
use Rattle.constellations.specs.declared.kinds.CostasConstellation.{CostasConstellation}
use Rattle.constellations.specs.Octant.{decision_of}
use Rattle.detectors.specs.Detector.{detected, calmed, error_of}
use Rattle.detectors.specs.Turns.{Allowed}
use Rattle.detectors.proofs.Laws.Turning.{turned-detected}

-- ---- finite
calmed-finite : (e : Float) → T (finite (calmed e))
unfolding calmed
calmed-finite e = finite-or-zero e

pub error-finite : (c : CostasConstellation) (y : C32) → T (finite (error_of c y))
unfolding error_of
error-finite c y = calmed-finite (detected c y (decision_of c y))

-- ---- of a turned sample
alike-calmed : {a b : Float} → Alike a b → Alike (calmed a) (calmed b)
unfolding calmed
alike-calmed p = like-cond (like-finite p) p (like-refl zero₀)

pub turned-error : (c : CostasConstellation) (k m : ℕ) → Allowed c k m → (y : C32) {v : C32} → Turned (k + 3 * m) y v → Alike (error_of c v) (error_of c y)
unfolding error_of
turned-error c k m a y p = alike-calmed (turned-detected c k m a y p)
