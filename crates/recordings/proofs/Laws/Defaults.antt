-- The set-up for the sample recording is accepted, with either detector and each constellation. Assumes nothing.
use Rattle.std.specs.Prelude.{Ok}
use Rattle.std.proofs.Common.{◌≡◌, refl}
use lib.Ieee.{add, mul, div, lt, le, round}
use Rattle.checks.specs.Range.{in_range, positive}
use Rattle.checks.specs.Table.{first_of}
use Rattle.gains.specs.Quotients.{theta, divisor, proportional, integral}
use Rattle.timing.specs.Gains.{kp_of, ki_of}
use Rattle.timing.specs.declared.params.Ted.{Ted}
use Rattle.constellations.specs.declared.kinds.CostasConstellation.{CostasConstellation}
use Rattle.receiver.specs.Record.{timing_params, carrier_params_of, fresh, opened}
use Rattle.recordings.specs.Defaults.{timing_defaults, carrier_defaults}

pub defaults-accepted : (k : CostasConstellation) (ted : Ted) → opened k (timing_defaults ted) carrier_defaults ≡ Ok (fresh k (timing_params (timing_defaults ted)) (carrier_params_of carrier_defaults))
unfolding opened first_of in_range positive kp_of ki_of theta divisor proportional integral add mul div le lt round
defaults-accepted k ted = refl
