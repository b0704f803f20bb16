-- What the definition makes of the samples from place k on is what it makes of all.
use Rattle.std.proofs.Common.{◌≡◌, drop}
use Rattle.values.specs.Samples.{samples}
use Rattle.recordings.specs.Content.{content_with}
use Rattle.recordings.proofs.content.content_with.Given as goal

abbrev pub invariant-loop-k : goal.invariant-loop-k
invariant-loop-k l = content_with l.content (drop l.k (samples l.input)) ≡ content_with l.initial.content (samples l.input)
