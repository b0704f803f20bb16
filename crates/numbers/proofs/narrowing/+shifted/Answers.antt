-- `numbers::shifted` meets its contract: each call drops one place, and the last one rounds. Assumes nothing.
use mathlib.Core.Path.{◌∙◌}
use mathlib.Core.Logic.{inl, inr}
use Rattle.numbers.proofs.Laws.Shifting.{shed}
use Rattle.numbers.proofs.narrowing.+shifted.Goals as goal
use Rattle.numbers.proofs.narrowing.+shifted.Goals.{then-lost, else-lost}

pub returns-after-lost : goal.returns-after-lost
returns-after-lost t c =
    let a = c.args in
    c.shifted.ensures ∙ shed a.i a.lost c.if-lost.shifted a.places c.if-places-gt0.true (elim c.if-lost.branch [ then-lost w ↦ inl (w.if-lost.true, w.shifted-is ∙ w.if-lost.true) | else-lost w ↦ inr (w.if-lost.false, w.shifted-is) ])
