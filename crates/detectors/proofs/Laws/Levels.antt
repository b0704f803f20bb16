-- The lock detector: the turns that a constellation allows leave the lock measure as it is, and levels alike stay
-- alike under it, with the same lock. Assumes nothing.
use Rattle.std.specs.Prelude.{Some, None}
use mathlib.Core.Path.{◌≡◌, ap}
use Prim.Native.Nat.{ℕ, ◌+◌, ◌*◌}
use mathlib.Core.Bool.{Bool, cond}
use lib.Ieee.{Float, binary32}
use lib.Ieee.Scale.{finite}
use Rattle.ieee.specs.Alike.{Alike}
use Rattle.ieee.specs.Notation.{half₀, decimal}
use Rattle.ieee.proofs.Laws.Like.{like-refl, like-add, like-sub, like-mul-r}
use Rattle.ieee.proofs.Laws.Compare.{like-lt}
use Rattle.values.specs.declared.sample.C32.{C32}
use Rattle.values.specs.Turn.{Turned}
use Rattle.numbers.proofs.Laws.Denormal.{like-flush}
use Rattle.constellations.specs.declared.kinds.CostasConstellation.{CostasConstellation}
use Rattle.constellations.specs.Octant.{decision_of}
use Rattle.detectors.specs.declared.lock.Lock.{Lock}
use Rattle.detectors.specs.Lock.{Metric, metric_of, smoothed, lock_after, watched}
use Rattle.detectors.specs.Turns.{Allowed}
use Rattle.detectors.proofs.Laws.Turning.{same-measured}

-- ---- the measure of a turned sample
pub same-metric : (c : CostasConstellation) (k m : ℕ) → Allowed c k m → (y : C32) {v : C32} → Turned (k + 3 * m) y v → metric_of c v (decision_of c v) ≡ metric_of c y (decision_of c y)
unfolding metric_of
same-metric c k m a y h = ap (λ (x : Float). cond (finite x) (Some x) None) (same-measured c k m a y h)

-- ---- levels alike
pub record AlikeLock (k l : Lock) : Type 0 where
  pub level : Alike l.level k.level
  pub locked : l.locked ≡ k.locked

alike-smoothed : {l k : Float} (m : Float) → Alike l k → Alike (smoothed l m) (smoothed k m)
unfolding smoothed
alike-smoothed m p = like-flush binary32 (like-add binary32 p (like-mul-r binary32 (like-refl (decimal binary32 1 100)) (like-sub binary32 (like-refl m) p)))

same-held : {a b : Bool} {l k : Float} → a ≡ b → Alike l k → lock_after a l ≡ lock_after b k
unfolding lock_after
same-held e p = rw (e, like-lt (like-refl half₀) p, like-lt p (like-refl (decimal binary32 3 10)))

pub alike-watched : {k l : Lock} (m : Metric) → AlikeLock k l → AlikeLock (watched k m) (watched l m)
unfolding watched
alike-watched (Some m) h = let l = alike-smoothed m h.level in record { level = l; locked = same-held h.locked l }
alike-watched None h = h
