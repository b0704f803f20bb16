-- The answers of the complex loop as the outcomes that the definitions are over. Definitions only.
use Rattle.std.specs.Prelude.{List, Float}
use Rattle.values.specs.declared.sample.C32.{C32}
use Rattle.values.specs.Answer.{Answer, number, consumed, produced}
use Rattle.timing.specs.Run.{Sync, Opening, Outcome}
use Rattle.timing_loop.specs.declared.loops.Recovered as declaredRecovered
use Rattle.timing_loop.specs.Outcome as generic
use Rattle.complex_sync.specs.declared.loops.Ran as declaredRan

-- the state, and a set-up's answer: the state, or why it is refused
abbrev pub SymbolSyncState : Type 0
SymbolSyncState = Sync C32

abbrev pub SetUp : Type 0
SetUp = Opening C32

-- K7: a run's answer, the state after it and what the output holds
abbrev pub outcome_of : Answer → Sync C32 → List Float → Outcome C32
outcome_of a s ys = record { number = number a; consumed = consumed a; produced = produced a; state = s; output = ys }

abbrev pub answered : declaredRan.Ran → List Float → Outcome C32
answered r ys = outcome_of r.answer r.state ys

-- and of a run that is not refused
abbrev pub Recovered : Type 0
Recovered = declaredRecovered.Recovered C32

abbrev pub recovered : Recovered → List Float → Outcome C32
recovered r ys = generic.recovered r ys
