-- X5 to X8: the phase step of half a unit of 2^-32 turn forward and back, of one and a half back, and at the
-- upper end. Definitions only.
use Rattle.std.specs.Prelude.{◌≡◌, true, false, pos, negsuc}
use Rattle.std.specs.Float.{fin}
use Rattle.modulate.specs.Step.{phase_step}

pub record Cases : Type 0 where
  -- X5: v = 2^-33
  pub half-on : phase_step (fin false 1 (negsuc 32)) ≡ 1
  -- X6: v = -2^-33
  pub half_back : phase_step (fin true 1 (negsuc 32)) ≡ 0
  -- X7: v = -3 × 2^-33
  pub three-halves-back : phase_step (fin true 3 (negsuc 32)) ≡ 4294967295
  -- X8: v = 2^31
  pub upper-end : phase_step (fin false 1 (pos 31)) ≡ 4294967295
