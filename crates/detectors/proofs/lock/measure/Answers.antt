-- `detectors::lock::measure` meets its contract: the definition goes by the constellation. Assumes nothing.
use mathlib.Core.Path.{sym, ◌∙◌}
use Rattle.detectors.specs.Lock.{measured}
use Rattle.detectors.proofs.lock.measure.Goals as goal

pub returns-in-Bpsk : goal.returns-in-Bpsk
unfolding measured
returns-in-Bpsk c = let a = c.args in c.measure2.ensures ∙ (λ j. measured (sym c.in-Bpsk.is j) a.y a.d)

pub returns-in-Qpsk : goal.returns-in-Qpsk
unfolding measured
returns-in-Qpsk c = let a = c.args in c.measure4.ensures ∙ (λ j. measured (sym c.in-Qpsk.is j) a.y a.d)

pub returns-in-Psk8 : goal.returns-in-Psk8
unfolding measured
returns-in-Psk8 c = let a = c.args in c.measure8.ensures ∙ (λ j. measured (sym c.in-Psk8.is j) a.y a.d)
