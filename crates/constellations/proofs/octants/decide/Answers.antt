-- `constellations::octants::decide` meets its contract: each arm is what the definition picks for that constellation.
-- Assumes nothing.
use mathlib.Core.Path.{sym, ◌∙◌}
use lib.Ieee.{of_bits}
use Rattle.constellations.specs.Octant.{decision_of}
use Rattle.constellations.proofs.octants.decide.Goals as goal

pub returns-in-Bpsk : goal.returns-in-Bpsk
unfolding decision_of of_bits
returns-in-Bpsk c = λ j. decision_of (sym c.in-Bpsk.is j) c.args.y

pub returns-in-Qpsk : goal.returns-in-Qpsk
unfolding decision_of of_bits
returns-in-Qpsk c = λ j. decision_of (sym c.in-Qpsk.is j) c.args.y

pub returns-in-Psk8 : goal.returns-in-Psk8
unfolding decision_of
returns-in-Psk8 c = c.point8.ensures ∙ (λ j. decision_of (sym c.in-Psk8.is j) c.args.y)
