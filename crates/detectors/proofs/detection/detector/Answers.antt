-- `detectors::detector` meets its contract: the definition goes by the constellation. Assumes nothing.
use mathlib.Core.Path.{sym, ◌∙◌}
use Rattle.detectors.specs.Detector.{detected}
use Rattle.detectors.proofs.detection.detector.Goals as goal

pub returns-in-Bpsk : goal.returns-in-Bpsk
unfolding detected
returns-in-Bpsk c = let a = c.args in λ j. detected (sym c.in-Bpsk.is j) a.y a.d

pub returns-in-Qpsk : goal.returns-in-Qpsk
unfolding detected
returns-in-Qpsk c = let a = c.args in c.detector4.ensures ∙ (λ j. detected (sym c.in-Qpsk.is j) a.y a.d)

pub returns-in-Psk8 : goal.returns-in-Psk8
unfolding detected
returns-in-Psk8 c = let a = c.args in λ j. detected (sym c.in-Psk8.is j) a.y a.d
