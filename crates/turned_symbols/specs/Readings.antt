-- Q13: what is claimed of how the symbols of a turned recording read. Definitions only.
use Rattle.std.specs.Prelude.{◌≡◌, ℕ, List}
use Rattle.lists.specs.Each.{Each}
use Rattle.values.specs.declared.sample.C32.{C32}
use Rattle.constellations.specs.declared.kinds.CostasConstellation.{CostasConstellation}
use Rattle.symbol_numbers.specs.Symbol.{symbol_of}
use Rattle.symbol_numbers.specs.Turned.{turned_number}
use Rattle.carrier.specs.Calls.{turns_less}
use Rattle.receiver.specs.Record.{Receiver}
use Rattle.sample_calls.specs.Call.{Outcome}
use Rattle.sample_calls.specs.Calls.{Call, outcomes, outputs_of}

-- of one symbol: z reads as y does after j quarter turns (Q12)
abbrev pub TurnedReading : CostasConstellation → ℕ → C32 → C32 → Type 0
TurnedReading c j y z = symbol_of c z ≡ turned_number c j (symbol_of c y)

-- of one call: each symbol that it produced
abbrev pub TurnedSymbols : CostasConstellation → ℕ → Outcome → Outcome → Type 0
TurnedSymbols c j q r = Each (TurnedReading c j) (outputs_of q) (outputs_of r)

-- Q13: call by call, with j = (k - m) mod 4
abbrev pub TurnedReadings : CostasConstellation → ℕ → ℕ → Receiver → Receiver → List Call → List Call → Type 0
TurnedReadings c k m r s cs ds = Each (TurnedSymbols c (turns_less k m)) (outcomes r cs) (outcomes s ds)
