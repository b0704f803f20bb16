-- L4: the numbers that stand for the enums, in both directions; L14: which numbers do; L11: the one that stands for
-- none. Definitions only.
use Rattle.std.specs.Prelude.{ℕ, Bool, cond, eqb, ltb, Some, None}
use Rattle.values.specs.declared.sample.C32.{C32}
use Rattle.timing.specs.declared.params.Ted.{Ted}
use Rattle.timing.specs.declared.params.Ted.TheVariants.{Gardner, MuellerMuller}
use Rattle.constellations.specs.declared.kinds.CostasConstellation.{CostasConstellation}
use Rattle.constellations.specs.declared.kinds.CostasConstellation.TheVariants.{Bpsk, Qpsk, Psk8}
use Rattle.symbol_numbers.specs.Symbol.{SymbolNumber, symbol_of}

-- L14: a detector has this code
abbrev pub detector_named : ℕ → Bool
detector_named code = ltb code 2

-- L4: a code that comes in; any but 0 is Mueller-Müller
abbrev pub detector_of : ℕ → Ted
detector_of code = cond (eqb code 0) Gardner MuellerMuller

abbrev pub detector_code : Ted → ℕ
detector_code Gardner = 0
detector_code MuellerMuller = 1

-- L14: a constellation has this code
abbrev pub constellation_named : ℕ → Bool
constellation_named code = ltb code 3

-- L4: a code that comes in; any but 0 and 1 is 8-PSK
abbrev pub constellation_of : ℕ → CostasConstellation
constellation_of code = cond (eqb code 0) Bpsk (cond (eqb code 1) Qpsk Psk8)

abbrev pub constellation_code : CostasConstellation → ℕ
constellation_code Bpsk = 0
constellation_code Qpsk = 1
constellation_code Psk8 = 2

-- L14: what a symbol reads under the constellation of a code: none where no constellation has the code
abbrev pub symbol_under : ℕ → C32 → SymbolNumber
symbol_under code y = cond (constellation_named code) (symbol_of (constellation_of code) y) None

-- L11: a symbol's number stands for itself
abbrev pub symbol_code : SymbolNumber → ℕ
symbol_code (Some n) = n
symbol_code None = 255
