-- X1 to X12, X18 and X19, the starred cases, in one statement. Definitions only.
use Rattle.timing.specs.Cases as timing
use Rattle.modulate.specs.Cases as modulate
use Rattle.carrier.specs.Cases as carrier

pub record StarredCases : Type 0 where
  -- X1, X2, X3 and X4
  pub windows-and-errors : timing.Cases
  -- X5, X6, X7 and X8
  pub phase-steps : modulate.Cases
  -- X9, X10, X11 and X12; X18 and X19 stand there too
  pub octants-and-measures : carrier.Cases
