-- What a run answers, with the output as it stands then, as an outcome of the definition; what of the input it
-- reaches. Definitions only.
use Rattle.std.specs.Prelude.{◌*◌, ◌/◌, List, length, take, Float}
use Rattle.values.specs.declared.sample.C32.{C32}
use Rattle.values.specs.Samples.{samples}
use Rattle.carrier.specs.Run.{Outcome, replied, Reply}
use Rattle.carrier.specs.declared.state.CostasState.{CostasState}
use Rattle.costas.specs.declared.symbols.Ran.{Ran}

abbrev pub outcome_of : Reply → CostasState → List Float → Outcome
outcome_of a s ys = record { number = replied a; state = s; output = ys }

abbrev pub answered : Ran → List Float → Outcome
answered r ys = outcome_of r.answer r.state ys

-- the samples of the input that the output has places for
abbrev pub reached : List Float → List Float → List C32
reached xs ys = samples (take (2 * (length ys / 2)) xs)
