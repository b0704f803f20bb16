-- The size that the code compares is the magnitude but for a zero's sign, so that comparisons agree. Assumes nothing.
use mathlib.Core.Path.{◌≡◌}
use Prim.Native.Nat.{zero, suc}
use mathlib.Core.Bool.{true, false, cond}
use lib.Ieee.{Float, nan, inf, fin, neg, lt}
use Rattle.ieee.specs.Alike.{Alike}
use Rattle.ieee.specs.Magnitude.{magnitude}
use Rattle.ieee.proofs.Laws.Like.{like-refl, like-zero}
use Rattle.ieee.proofs.Laws.Compare.{like-lt}
use Rattle.constellations.specs.Octant.{size_of}
use Rattle.constellations.proofs.Laws.Class.{class, flip, is_high, below-zero}

by-class : (x : Float) → Alike (cond (is_high (flip (class x))) (neg x) x) (magnitude x)
unfolding class magnitude neg
by-class nan = like-refl nan
by-class (inf true) = like-refl (inf false)
by-class (inf false) = like-refl (inf false)
by-class (fin s zero e) = like-zero false s false e e
by-class (fin true (suc m) e) = like-refl (fin false (suc m) e)
by-class (fin false (suc m) e) = like-refl (fin false (suc m) e)

pub size-alike : (x : Float) → Alike (size_of x) (magnitude x)
unfolding size_of
size-alike x = rw (below-zero x) (by-class x)

pub size-lt : (x y : Float) → lt (size_of x) (size_of y) ≡ lt (magnitude x) (magnitude y)
size-lt x y = like-lt (size-alike x) (size-alike y)
