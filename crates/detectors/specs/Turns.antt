-- Q3: the quarter turns that a constellation allows, k of the input and m of the phase: its detector and its lock
-- measure are the same after them. Definitions only.
use Rattle.std.specs.Prelude.{◌≡◌, ℕ, ◌+◌, ◌%◌, true, T}
use Rattle.constellations.specs.declared.kinds.CostasConstellation.{CostasConstellation}
use Rattle.constellations.specs.declared.kinds.CostasConstellation.TheVariants.{Bpsk, Qpsk, Psk8}

-- Q3: under BPSK the sum of both is even
abbrev pub Allowed : CostasConstellation → ℕ → ℕ → Type 0
Allowed Bpsk k m = (k + m) % 2 ≡ 0
Allowed Qpsk k m = T true
Allowed Psk8 k m = T true
