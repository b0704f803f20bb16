-- The parameters of a timing state as a plain record, and its readings. Definitions only.
use Rattle.std.specs.Prelude.{◌<◌, false}
use Rattle.ieee.specs.Notation.{zero₀}
use Rattle.timing.specs.declared.params.Ted.TheVariants.{Gardner}
use Rattle.timing.specs.declared.params.Params.{Params}
use Rattle.timing.specs.declared.clock.Clock.{Clock}
use Rattle.timing.specs.Clock.{next_strobe}
use Rattle.timing.specs.Run as run
use Rattle.timing.specs.declared.params.TimingValues as declaredValues
use Rattle.plain_timing.specs.declared.params.TimingValues.{TimingValues}
use Rattle.plain_timing.specs.declared.params.TimingParams.{TimingParams}
use Rattle.plain_timing.specs.declared.params.TimingReadings.{TimingReadings}
use Rattle.plain.specs.Codes.{detector_of, detector_code}

-- the values that a record stands for
abbrev pub values_of : TimingValues → declaredValues.TimingValues
values_of v = record { sps = v.sps; ted = detector_of v.ted; loop_bw = v.loop_bw; damping = v.damping; max_deviation = v.max_deviation; ted_gain = v.ted_gain }

-- the parameters that a record stands for
abbrev pub params_of : TimingParams → Params
params_of p =
    record { sps = p.sps; ted = detector_of p.ted; loop_bw = p.loop_bw; damping = p.damping; max_deviation = p.max_deviation; ted_gain = p.ted_gain; kp = p.kp; ki = p.ki; lim = p.lim }

-- the record of parameters
abbrev pub params_record : Params → TimingParams
params_record p =
    record { sps = p.sps; ted = detector_code p.ted; loop_bw = p.loop_bw; damping = p.damping; max_deviation = p.max_deviation; ted_gain = p.ted_gain; kp = p.kp; ki = p.ki; lim = p.lim }

-- L3: a state of zeros, in the place of the state of a refused set-up
abbrev pub zeros : {A : Type 0} → A → run.Sync A
zeros z =
    record {
      params = record { sps = zero₀; ted = Gardner; loop_bw = zero₀; damping = zero₀; max_deviation = zero₀; ted_gain = zero₀; kp = zero₀; ki = zero₀; lim = zero₀ };
      hist = record { a = z; b = z; c = z };
      track = record { clock = record { i = 0; mu = zero₀; omega = zero₀; integ = zero₀ }; y_prev = z; d_prev = z; mid = z; mid_ready = false; started = false };
    }

-- T21: the readings, beside the values of the set-up
abbrev pub readings_of : TimingParams → Clock → TimingReadings
readings_of p c =
    record {
      values = record { sps = p.sps; ted = p.ted; loop_bw = p.loop_bw; damping = p.damping; max_deviation = p.max_deviation; ted_gain = p.ted_gain };
      next_strobe = next_strobe c;
      sps_estimate = c.omega;
    }

-- A9: a record that a set-up, a reset or a call has given: the state is such a one, and the
-- detector's code is one of the two
pub record Given {A : Type 0} (s : run.Sync A) (p : TimingParams) : Type 0 where
  pub state : run.Given s
  pub detector : p.ted < 2
