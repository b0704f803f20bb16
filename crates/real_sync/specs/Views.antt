-- The answers of the real loop as the outcomes that the definitions are over. Definitions only.
use Rattle.std.specs.Prelude.{List, Float}
use Rattle.values.specs.declared.progress.Progress.{Progress}
use Rattle.timing.specs.Run.{Sync, Opening, Outcome}
use Rattle.timing_loop.specs.declared.loops.Recovered.{Recovered}
use Rattle.timing_loop.specs.Outcome.{recovered}

-- the state, and a set-up's answer: the state, or why it is refused
abbrev pub SymbolSyncState : Type 0
SymbolSyncState = Sync Float

abbrev pub SetUp : Type 0
SetUp = Opening Float

-- a run's counts, the state after it and what the output holds
abbrev pub outcome_of : Progress → Sync Float → List Float → Outcome Float
outcome_of q s ys = record { number = 0; consumed = q.consumed; produced = q.produced; state = s; output = ys }

abbrev pub answered : Recovered Float → List Float → Outcome Float
answered r ys = recovered r ys
