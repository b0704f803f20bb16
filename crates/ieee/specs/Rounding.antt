-- What it is to be rounded once. Definitions only.
use Rattle.std.specs.Prelude.{◌≡◌, ℕ, ◌-◌, ◌≤◌, true, false, Float}
use Rattle.std.specs.Float.{Format}
use Rattle.std.specs.Float.Ieee.{round}

-- z is (p - n) / c, rounded once. A zero may have either sign.
pub data Rounds (f : Format) (z : Float) (p n c : ℕ) : Type 0 where
  high : n ≤ p → z ≡ round f false (p - n) c → Rounds f z p n c
  deep : p ≤ n → z ≡ round f true (n - p) c → Rounds f z p n c
