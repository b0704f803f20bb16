-- One call of the carrier loop: when it is refused, and with what number, state and output it ends. Definitions only.
use Rattle.std.specs.Prelude.{ℕ, ◌*◌, ◌/◌, Bool, cond, not, ◌&&◌, List, length, take, ◌==◌, Float, Result, Ok, Err}
use Rattle.values.specs.declared.error.Refusal.{Refusal}
use Rattle.values.specs.declared.error.Refusal.TheVariants.{Uneven, Odd}
use Rattle.values.specs.Refusal.{number_of}
use Rattle.values.specs.Samples.{samples, parts}
use Rattle.values.specs.Buffers.{odd_either, written}
use Rattle.cosine.specs.Table.{cos_list}
use Rattle.carrier.specs.declared.state.CostasState.{CostasState}
use Rattle.carrier.specs.Step.{Symbols, runs}

-- a run's answer, which has no counts: every input sample gives an output sample
abbrev pub Reply : Type 0
Reply = Result (Unit {0}) Refusal

-- A2: the number of the answer (0: done), the state, and what the output holds; there are no counts (A7)
pub record Outcome : Type 0 where
  pub number : ℕ
  pub state : CostasState
  pub output : List Float

-- K7: the number of an answer
abbrev pub replied : Reply → ℕ
replied (Ok u) = 0
replied (Err n) = number_of n

-- the symbols of a run from s
abbrev pub symbols : CostasState → List Float → Symbols
symbols s xs = runs cos_list s.constellation s.params s.track (samples xs)

-- A7: a refused call leaves the state and the output as they were
abbrev pub refused_call : Refusal → CostasState → List Float → Outcome
refused_call n s ys = record { number = number_of n; state = s; output = ys }

-- C1: an accepted call has an output sample for each input sample
abbrev pub done : CostasState → List Float → Outcome
done s xs = let r = symbols s xs in record { number = 0; state = record { constellation = s.constellation; params = s.params; track = r.last }; output = parts r.values }

-- C24: over buffers of any lengths: the symbols that both hold whole, at the front of the output
abbrev pub carried : CostasState → List Float → List Float → Outcome
carried s xs ys = let r = done s (take (2 * (length ys / 2)) xs) in record { number = 0; state = r.state; output = written r.output ys }

-- C1: an odd count of f32 in either buffer is refused (E8), then lengths that differ (E7)
unfoldable pub called : CostasState → List Float → List Float → Outcome
called s xs ys = cond (odd_either xs ys) (refused_call Odd s ys) (cond (length xs == length ys) (done s xs) (refused_call Uneven s ys))

-- whether a call is not refused
abbrev pub accepts : List Float → List Float → Bool
accepts xs ys = not (odd_either xs ys) && length xs == length ys
