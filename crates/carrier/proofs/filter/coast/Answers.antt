-- `carrier::filter::coast` meets its contract, by what its callees ensure; the phase step of an f32 in f64 is
-- the same. Assumes nothing.
use Rattle.std.proofs.Common.{ℕ, ◌+◌, ◌%◌, ◌^◌, ap, ◌∙◌}
use lib.Ieee.{Float, binary32, of_bits}
use lib.Ieee.Fits.{add-fits}
use Rattle.ieee.specs.Notation.{zero₀, ◌⊕◌, ◌⊗◌}
use Rattle.modulate.specs.Step.{phase_step, step_of, turn₀}
use Rattle.modulate.proofs.Laws.StepSingle.{step-single}
use Rattle.numbers.specs.Range.{limited}
use Rattle.carrier.specs.Filter.{new_freq, advanced}
use Rattle.carrier.proofs.filter.coast.Goals as goal

pub returns : goal.returns
unfolding new_freq advanced of_bits
returns c =
    let a = c.args in
    let f = c.limit-freq.ensures ∙ ap (λ (x : Float). limited x a.p.max) c.flush_denormal.ensures in
    let v : Float → Float = λ x. x ⊕ a.p.kp ⊗ zero₀ in
    let s = c.phase_step-step.ensures ∙ ap (λ (x : Float). step_of x turn₀) c.widen.ensures ∙ step-single _ (add-fits binary32 _ _) ∙ ap (λ (x : Float). phase_step (v x)) f in
    let p = c.wrapping_add_u32.ensures.value ∙ ap (λ (i : ℕ). (a.n.phase + i) % 2 ^ 32) s in
    λ j. record { phase = p j; freq = f j }
