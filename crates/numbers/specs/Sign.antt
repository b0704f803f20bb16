-- The sign of a number: 1, -1 or 0. Definitions only.
use Rattle.std.specs.Prelude.{cond, Float}
use Rattle.std.specs.Float.Ieee.{neg, lt}
use Rattle.ieee.specs.Notation.{zero₀, one₀}

-- N8: 1 above zero, -1 below; a NaN and both zeros give 0
unfoldable pub sign_of : Float → Float
sign_of x = cond (lt zero₀ x) one₀ (cond (lt x zero₀) (neg one₀) zero₀)
