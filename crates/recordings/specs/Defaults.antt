-- What a receiver is set up with for the sample recording (P1); decimals are the nearest f64. Definitions only.
use Rattle.std.specs.Float.{binary64}
use Rattle.ieee.specs.Notation.{decimal}
use Rattle.timing.specs.declared.params.Ted.{Ted}
use Rattle.timing.specs.declared.params.TimingValues.{TimingValues}
use Rattle.carrier.specs.declared.params.CarrierValues.{CarrierValues}

abbrev pub timing_defaults : Ted → TimingValues
timing_defaults ted = record { sps = decimal binary64 4 1; ted = ted; loop_bw = decimal binary64 1 100; damping = decimal binary64 1 1; max_deviation = decimal binary64 1 100; ted_gain = decimal binary64 628 100 }

abbrev pub carrier_defaults : CarrierValues
carrier_defaults = record { loop_bw = decimal binary64 2 100; damping = decimal binary64 1 1; max_offset = decimal binary64 5 100 }
