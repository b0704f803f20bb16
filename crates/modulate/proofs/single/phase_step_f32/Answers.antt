-- `modulate::single::phase_step_f32` meets its contract: from the bits below 2^14 in size, else by the f64 form,
-- which is the same for every f32. Assumes nothing.
use Rattle.std.proofs.Common.{ap, ◌∙◌}
use lib.Ieee.{Float, of_bits, neg}
use Rattle.ieee.proofs.Laws.Test.{yes}
use Rattle.modulate.specs.Step.{step_of, turn₀}
use Rattle.modulate.proofs.Laws.StepSingle.{step-single}
use Rattle.modulate.proofs.single.phase_step_f32.Goals as goal

pub phase_step_bits-requires : goal.phase_step_bits-requires
unfolding of_bits neg
phase_step_bits-requires c = record { lower_bound = yes c.if-v-2.true; upper_bound = yes c.if-v.true }

pub returns : goal.returns
unfolding of_bits
returns c =
    c.phase_step.ensures ∙ ap (λ (x : Float). step_of x turn₀) c.widen.ensures ∙ step-single c.args.v (yes c.well_formed.0.1)
