-- Q12: what quarter turns of a sample make of its reading. Definitions only.
use Rattle.std.specs.Prelude.{◌≡◌, true, ℕ, ◌+◌, ◌*◌, ◌/◌, ◌%◌, T, Some, None}
use Rattle.constellations.specs.declared.kinds.CostasConstellation.{CostasConstellation}
use Rattle.constellations.specs.declared.kinds.CostasConstellation.TheVariants.{Bpsk, Qpsk, Psk8}
use Rattle.symbol_numbers.specs.Symbol.{SymbolNumber, point_count}

-- Q12: what j quarter turns add to a number
abbrev pub numbers_on : CostasConstellation → ℕ → ℕ
numbers_on Bpsk j = j / 2
numbers_on Qpsk j = j
numbers_on Psk8 j = 2 * j

-- Q12: the turns after which points are points again: under BPSK an even count
abbrev pub Onto : CostasConstellation → ℕ → Type 0
Onto Bpsk j = j % 2 ≡ 0
Onto Qpsk j = T true
Onto Psk8 j = T true

-- Q12: none stays none, and a number grows, modulo the count of points
abbrev pub turned_number : CostasConstellation → ℕ → SymbolNumber → SymbolNumber
turned_number c j None = None
turned_number c j (Some n) = Some ((n + numbers_on c j) % point_count c)
