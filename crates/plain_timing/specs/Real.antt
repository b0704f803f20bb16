-- The real timing loop's state as a plain record. Definitions only.
use Rattle.std.specs.Prelude.{Float, Ok, Err}
use Rattle.ieee.specs.Notation.{zero₀}
use Rattle.values.specs.Refusal.{number_of}
use Rattle.timing.specs.Run.{Sync, Opening}
use Rattle.plain_timing.specs.declared.real.RealTiming.{RealTiming}
use Rattle.plain_timing.specs.declared.real.RealSetUp.{RealSetUp}
use Rattle.plain_timing.specs.Params.{params_of, params_record, zeros}
use Rattle.plain_timing.specs.Params as timing

-- L1: the state that a record stands for
abbrev pub sync_of : RealTiming → Sync Float
sync_of x =
    let h = x.hist in
    let t = x.track in
    record {
      params = params_of x.params;
      hist = record { a = h.a; b = h.b; c = h.c };
      track = record { clock = t.clock; y_prev = t.y_prev; d_prev = t.d_prev; mid = t.mid; mid_ready = t.mid_ready; started = t.started };
    }

-- L1: the record of a state
abbrev pub record_of : Sync Float → RealTiming
record_of s =
    let h = s.hist in
    let t = s.track in
    record {
      params = params_record s.params;
      hist = record { a = h.a; b = h.b; c = h.c };
      track = record { clock = t.clock; y_prev = t.y_prev; d_prev = t.d_prev; mid = t.mid; mid_ready = t.mid_ready; started = t.started };
    }

-- L3: zeros, in the place of the state of a refused set-up
abbrev pub none : RealTiming
none = record_of (zeros zero₀)

-- L3: a set-up's answer
abbrev pub set_up_of : Opening Float → RealSetUp
set_up_of (Ok s) = record { number = 0; state = record_of s }
set_up_of (Err n) = record { number = number_of n; state = none }

abbrev pub Given : RealTiming → Type 0
Given x = timing.Given (sync_of x) x.params
