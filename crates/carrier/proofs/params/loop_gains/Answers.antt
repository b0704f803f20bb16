-- `carrier::loop_gains` meets its contract: the quotients over 2π, narrowed. Assumes nothing.
use Rattle.std.specs.Prelude.{Float}
use Rattle.std.proofs.Common.{ap, ◌∙◌}
use lib.Ieee.{of_bits}
use Rattle.ieee.specs.Notation.{◌⧄◌}
use Rattle.gains.specs.declared.quotients.Gains.{Gains}
use Rattle.numbers.specs.Narrowing.{narrowed}
use Rattle.carrier.specs.Gains.{tau, kp_of, ki_of}
use Rattle.carrier.proofs.params.loop_gains.Goals as goal

pub returns : goal.returns
unfolding kp_of ki_of of_bits
returns c =
    let q = c.inner_gains-q.ensures in
    λ j. record {
      kp = (c.narrow.ensures ∙ ap (λ (q : Gains Float). narrowed (q.kp ⧄ tau)) q) j;
      ki = (c.narrow-2.ensures ∙ ap (λ (q : Gains Float). narrowed (q.ki ⧄ tau)) q) j;
    }
