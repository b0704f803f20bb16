-- `replay_states::timing_words` meets its contract, word by word. Assumes nothing.
use Rattle.std.proofs.Common.{◌≡◌, ℕ, [], ◌∷◌, ap, ◌∙◌}
use lib.Ieee.{Float}
use Rattle.plain.specs.Codes.{detector_code}
use Rattle.replay_states.specs.Words.{double, timing_words}
use Rattle.replay_states.proofs.words.timing_words.Goals as goal

-- the bits of a reading are those of what it reads
read : {w : ℕ} {x y : Float} → w ≡ double x → x ≡ y → w ≡ double y
read e f = e ∙ ap double f

pub returns : goal.returns
unfolding timing_words
returns c =
    let ted = c.detector_code.ensures ∙ ap detector_code c.ted.ensures in
    λ j. read c.bits_of.ensures c.sps.ensures j ∷ read c.bits_of-2.ensures c.loop_bw.ensures j ∷ read c.bits_of-3.ensures c.damping.ensures j
    ∷ read c.bits_of-4.ensures c.max_deviation.ensures j ∷ read c.bits_of-5.ensures c.ted_gain.ensures j ∷ ted j
    ∷ c.bits_of-6.ensures j ∷ c.bits_of-7.ensures j ∷ c.bits_of-8.ensures j
    ∷ c.args.s.track.clock.i ∷ c.bits_of-9.ensures j ∷ read c.bits_of-10.ensures c.sps_estimate.ensures j
    ∷ c.word.ensures j ∷ c.word-2.ensures j ∷ c.word-3.ensures j
    ∷ c.word-4.ensures j ∷ c.word-5.ensures j ∷ c.word-6.ensures j
    ∷ c.bits_of-11.ensures j ∷ c.flags.ensures j ∷ read c.bits_of-12.ensures c.next_strobe.ensures j
    ∷ []
