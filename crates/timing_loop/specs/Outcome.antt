-- The counts of a run, with the state after it and what the output holds. Definitions only.
use Rattle.std.specs.Prelude.{List, Float}
use Rattle.timing.specs.Run.{Outcome}
use Rattle.timing_loop.specs.declared.loops.Recovered.{Recovered}

abbrev pub recovered : {A : Type 0} → Recovered A → List Float → Outcome A
recovered r ys = record { number = 0; consumed = r.progress.consumed; produced = r.progress.produced; state = r.state; output = ys }
