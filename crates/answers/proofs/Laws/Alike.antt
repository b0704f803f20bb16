-- When two floats that do not compare as equal are the same number, by the code's tests. Assumes nothing.
use Rattle.std.proofs.Common.{◌≡◌, true, false}
use lib.Ieee.{Float, ne, eq}
use Rattle.ieee.specs.Alike.{same_number}
use Rattle.ieee.proofs.Laws.Nan.{differs-is}

pub alike-nan : (x y : Float) → eq x y ≡ false → ne x x ≡ true → ne y y ≡ same_number x y
alike-nan x y h k = rw (h, ← differs-is x, k) (differs-is y)
