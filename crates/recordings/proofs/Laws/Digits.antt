-- Symbols as digits: how many digits an output has, and the one at an index. Assumes nothing.
use Rattle.std.proofs.Common.{◌≡◌, ℕ, ◌/◌, ◌<◌, min, List, length, get_or, take, sym, ap, ◌∙◌, get_or-take}
use lib.ListN.{length-map, get_or-map}
use lib.Ieee.{Float}
use Rattle.values.specs.declared.sample.C32.{C32}
use Rattle.values.specs.Samples.{silence, samples}
use Rattle.constellations.specs.declared.kinds.CostasConstellation.{CostasConstellation}
use Rattle.recordings.specs.Text.{digit_of, digits}
use Rattle.recordings.proofs.Laws.Front.{length_front}

module _ (k : CostasConstellation) (ys : List Float) (n : ℕ) where
  pub length_digits : length (digits k ys n) ≡ min n (length ys / 2)
  length_digits = length-map (take n (samples ys)) (digit_of k) ∙ length_front ys n

  pub digit_at : (i : ℕ) → i < n → {y : C32} → y ≡ get_or (samples ys) i silence → {d : ℕ} → d ≡ digit_of k y → d ≡ get_or (digits k ys n) i (digit_of k silence)
  digit_at i h e f = f ∙ ap (digit_of k) (e ∙ sym (get_or-take n (samples ys) i silence h)) ∙ sym (get_or-map (digit_of k) (take n (samples ys)) i silence)
