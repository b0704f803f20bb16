-- X1 to X12, X18 and X19 hold, all in one theorem. Assumes nothing.
use Rattle.timing.proofs.Laws.Cases as timing
use Rattle.modulate.proofs.Laws.Cases as modulate
use Rattle.carrier.proofs.Laws.Cases as carrier
use Rattle.sample_calls.specs.Cases.{StarredCases}

pub starred-cases : StarredCases
starred-cases = record { windows-and-errors = timing.cases; phase-steps = modulate.cases; octants-and-measures = carrier.cases }
