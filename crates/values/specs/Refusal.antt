-- E1 to E11: the number of each refusal. Definitions only.
use Rattle.std.specs.Prelude.{ℕ}
use Rattle.values.specs.declared.error.Refusal.{Refusal}
use Rattle.values.specs.declared.error.Refusal.TheVariants.{Pace, Width, Damping, Pull, Slope, Gains, Uneven, Odd, Undefined, Cut, Early}

abbrev pub number_of : Refusal → ℕ
number_of Pace = 1
number_of Width = 2
number_of Damping = 3
number_of Pull = 4
number_of Slope = 5
number_of Gains = 6
number_of Uneven = 7
number_of Odd = 8
number_of Undefined = 9
number_of Cut = 10
number_of Early = 11
