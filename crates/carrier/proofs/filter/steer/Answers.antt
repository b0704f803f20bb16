-- `carrier::filter::steer` meets its contract, by what its callees ensure. Assumes nothing.
use Rattle.std.proofs.Common.{ℕ, ◌+◌, ◌%◌, ◌^◌, ap, ◌∙◌}
use lib.Ieee.{Float}
use Rattle.ieee.specs.Notation.{◌⊕◌, ◌⊗◌}
use Rattle.modulate.specs.Step.{phase_step}
use Rattle.carrier.specs.Filter.{new_freq, advanced}
use Rattle.carrier.proofs.filter.steer.Goals as goal

pub returns : goal.returns
unfolding new_freq advanced
returns c =
    let a = c.args in
    let f = c.integrate-freq.ensures in
    let s = c.phase_step_f32-step.ensures ∙ ap (λ (x : Float). phase_step (x ⊕ a.p.kp ⊗ a.e)) f in
    let p = c.wrapping_add_u32.ensures.value ∙ ap (λ (i : ℕ). (a.n.phase + i) % 2 ^ 32) s in
    λ j. record { phase = p j; freq = f j }
