-- Q13: the symbols of a turned recording read as those of the recording do, turned. Assumes nothing.
use mathlib.Core.Path.{◌∙◌}
use Prim.Native.Nat.{ℕ, ◌*◌, ◌^◌, ◌≤◌}
use native.Mathlib.Omega.{arith}
use mathlib.Core.List.{List}
use Rattle.lists.specs.Each.{Each}
use Rattle.lists.proofs.Laws.Each.{each-implies}
use Rattle.values.specs.declared.sample.C32.{C32}
use Rattle.values.specs.Turn.{Turned}
use Rattle.constellations.specs.declared.kinds.CostasConstellation.{CostasConstellation}
use Rattle.constellations.specs.declared.kinds.CostasConstellation.TheVariants.{Bpsk, Qpsk, Psk8}
use Rattle.detectors.specs.Turns.{Allowed}
use Rattle.symbol_numbers.specs.Turned.{Onto}
use Rattle.symbol_numbers.proofs.Laws.Symbol.{symbol-alike}
use Rattle.symbol_numbers.proofs.Laws.Turned.{symbol-turned}
use Rattle.carrier.specs.Calls.{turns_less}
use Rattle.timing.specs.declared.params.TimingValues.{TimingValues}
use Rattle.carrier.specs.declared.params.CarrierValues.{CarrierValues}
use Rattle.receiver.specs.Record.{Receiver, phase_set}
use Rattle.sample_calls.specs.Call.{Outcome}
use Rattle.sample_calls.specs.Calls.{Fresh, Call, TurnedCall, TurnedOutcome}
use Rattle.sample_calls.proofs.Laws.Turned.{turned-recordings}
use Rattle.turned_symbols.specs.Readings.{TurnedSymbols, TurnedReadings}

-- under BPSK the outputs are turned an even number of times
even-turns : (c : CostasConstellation) (k m : ℕ) → m ≤ 3 → Allowed c k m → Onto c (turns_less k m)
even-turns Bpsk k m h even = omega arith
even-turns Qpsk k m h on = tt
even-turns Psk8 k m h on = tt

-- of one call
symbols-turned : (c : CostasConstellation) (k m : ℕ) → Onto c (turns_less k m) → (q r : Outcome) → TurnedOutcome k m q r → TurnedSymbols c (turns_less k m) q r
symbols-turned c k m on q r t = each-implies (λ (y z : C32) (p : Turned (turns_less k m) y z). symbol-alike c p ∙ symbol-turned c (turns_less k m) on y) t.outputs

-- Q13: under the premises of `turned-recordings` and no other
pub turned-readings : (c : CostasConstellation) (t : TimingValues) (v : CarrierValues) {r s : Receiver} → Fresh c t v r → Fresh c t v s → (k m : ℕ) → m ≤ 3 → Allowed c k m → (cs ds : List Call) → Each (TurnedCall k) cs ds → TurnedReadings c k m r (phase_set s (m * 2 ^ 30)) cs ds
turned-readings c t v f g k m h a cs ds l = each-implies (symbols-turned c k m (even-turns c k m h a)) (turned-recordings c t v f g k m h a cs ds l).answers
