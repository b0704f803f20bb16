-- How many samples the front of an output has. Assumes nothing.
use Rattle.std.proofs.Common.{◌≡◌, ℕ, ◌/◌, min, List, length, take, ap, ◌∙◌, length-take}
use lib.Ieee.{Float}
use Rattle.values.specs.Samples.{samples}
use Rattle.values.proofs.Laws.Samples.{length-samples}

pub length_front : (ys : List Float) (n : ℕ) → length (take n (samples ys)) ≡ min n (length ys / 2)
length_front ys n = length-take n (samples ys) ∙ ap (min n) (length-samples ys)
