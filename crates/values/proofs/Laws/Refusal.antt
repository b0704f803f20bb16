-- A2: no refusal has the number 0, which says that a call is done. Assumes nothing.
use Prim.Native.Nat.{◌<◌}
use lib.Dec.{lit<}
use Rattle.values.specs.declared.error.Refusal.{Refusal}
use Rattle.values.specs.declared.error.Refusal.TheVariants.{Pace, Width, Damping, Pull, Slope, Gains, Uneven, Odd, Undefined, Cut, Early}
use Rattle.values.specs.Refusal.{number_of}

pub refused-above : (n : Refusal) → 0 < number_of n
refused-above Pace = lit< tt
refused-above Width = lit< tt
refused-above Damping = lit< tt
refused-above Pull = lit< tt
refused-above Slope = lit< tt
refused-above Gains = lit< tt
refused-above Uneven = lit< tt
refused-above Odd = lit< tt
refused-above Undefined = lit< tt
refused-above Cut = lit< tt
refused-above Early = lit< tt
