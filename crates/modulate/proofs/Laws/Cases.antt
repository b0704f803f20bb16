-- X5 to X8 hold. Assumes nothing.
use Rattle.std.proofs.Common.{refl}
use Rattle.modulate.specs.Step.{phase_step}
use Rattle.modulate.specs.Cases.{Cases}

pub cases : Cases
unfolding phase_step
cases = record { half-on = refl; half_back = refl; three-halves-back = refl; upper-end = refl }
