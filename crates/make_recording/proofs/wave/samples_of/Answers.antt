-- `make_recording::wave::samples_of` meets its contract: the parts of four samples. Assumes nothing.
use Rattle.std.proofs.Common.{[], ◌∷◌}
use Rattle.values.specs.Samples.{parts}
use Rattle.make_recording.proofs.wave.samples_of.Goals as goal

pub returns : goal.returns
unfolding parts
returns c = λ j. parts (c.sample-a.ensures j ∷ c.sample-b.ensures j ∷ c.sample-c.ensures j ∷ c.sample-d.ensures j ∷ [])
