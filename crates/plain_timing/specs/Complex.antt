-- The complex timing loop's state as a plain record. Definitions only.
use Rattle.std.specs.Prelude.{List, Float, Ok, Err}
use Rattle.values.specs.declared.sample.C32.{C32}
use Rattle.values.specs.Refusal.{number_of}
use Rattle.values.specs.Samples.{silence}
use Rattle.timing.specs.Run.{Sync, Opening, Outcome}
use Rattle.values.specs.declared.counts.Counts.{Counts}
use Rattle.plain_timing.specs.declared.complex.ComplexTiming.{ComplexTiming}
use Rattle.plain_timing.specs.declared.complex.ComplexSetUp.{ComplexSetUp}
use Rattle.plain_timing.specs.Params.{params_of, params_record, zeros}
use Rattle.plain_timing.specs.Params as timing

-- L1: the state that a record stands for
abbrev pub sync_of : ComplexTiming → Sync C32
sync_of x =
    let h = x.hist in
    let t = x.track in
    record {
      params = params_of x.params;
      hist = record { a = h.a; b = h.b; c = h.c };
      track = record { clock = t.clock; y_prev = t.y_prev; d_prev = t.d_prev; mid = t.mid; mid_ready = t.mid_ready; started = t.started };
    }

-- L1: the record of a state
abbrev pub record_of : Sync C32 → ComplexTiming
record_of s =
    let h = s.hist in
    let t = s.track in
    record {
      params = params_record s.params;
      hist = record { a = h.a; b = h.b; c = h.c };
      track = record { clock = t.clock; y_prev = t.y_prev; d_prev = t.d_prev; mid = t.mid; mid_ready = t.mid_ready; started = t.started };
    }

-- L3: zeros, in the place of the state of a refused set-up
abbrev pub none : ComplexTiming
none = record_of (zeros silence)

-- L3: a set-up's answer
abbrev pub set_up_of : Opening C32 → ComplexSetUp
set_up_of (Ok s) = record { number = 0; state = record_of s }
set_up_of (Err n) = record { number = number_of n; state = none }

-- a call's answer, the record after it and what the output holds
abbrev pub outcome_of : Counts → ComplexTiming → List Float → Outcome C32
outcome_of a x ys = record { number = a.number; consumed = a.consumed; produced = a.produced; state = sync_of x; output = ys }

abbrev pub Given : ComplexTiming → Type 0
Given x = timing.Given (sync_of x) x.params
