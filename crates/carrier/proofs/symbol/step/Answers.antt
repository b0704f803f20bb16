-- `carrier::step` meets its contract, by what its callees ensure. Assumes nothing.
use Rattle.std.proofs.Common.{ap, ◌∙◌}
use lib.Ieee.{Float}
use Rattle.detectors.specs.Detector.{detected, calmed, error_of}
use Rattle.detectors.specs.Lock.{metric_of, watched}
use Rattle.carrier.specs.Filter.{advanced}
use Rattle.carrier.specs.Step.{stepped}
use Rattle.carrier.proofs.symbol.step.Goals as goal

pub returns : goal.returns
unfolding stepped error_of
returns c =
    let a = c.args in
    let d = c.decide-d.ensures in
    let e = c.detector-e.ensures ∙ ap (detected a.constellation a.y) d in
    let n = c.advance-nco.ensures ∙ ap (λ (x : Float). advanced a.p a.t.nco (calmed x)) e in
    let m = c.lock_metric.ensures ∙ ap (metric_of a.constellation a.y) d in
    let k = c.watch-lock.ensures ∙ ap (watched a.t.lock) m in
    λ j. record { nco = n j; lock = k j }
