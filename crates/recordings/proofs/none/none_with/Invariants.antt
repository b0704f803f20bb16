-- What the definition makes of the samples from place k on is what it makes of all.
use Rattle.std.proofs.Common.{◌≡◌, take, drop}
use Rattle.values.specs.Samples.{samples}
use Rattle.recordings.specs.None.{none_with}
use Rattle.recordings.proofs.none.none_with.Given as goal

abbrev pub invariant-loop-k : goal.invariant-loop-k
invariant-loop-k l = none_with l.none (drop l.k (take l.n (samples l.output))) ≡ none_with l.initial.none (take l.n (samples l.output))
