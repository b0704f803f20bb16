-- `numbers::range::limit` meets its contract, by the laws for both formats. Assumes nothing.
use mathlib.Core.Path.{◌≡◌, sym, ap, ◌∙◌}
use mathlib.Core.Bool.{Bool}
use lib.Ieee.{Float, lt, neg}
use Rattle.numbers.proofs.Laws.Range.{limit-low, limit-high, limit-none}
use Rattle.numbers.proofs.range.limit.Goals as goal

-- the first test, whose answer is r, compares with n, the limit's opposite
first : (x l : Float) {n : Float} {r b : Bool} → r ≡ lt x n → n ≡ neg l → r ≡ b → lt x (neg l) ≡ b
first x l e h k = sym (e ∙ ap (lt x) h) ∙ k

pub returns-then-lt : goal.returns-then-lt
returns-then-lt g c =
    let law = g.met.T.Binary in
    law.neg_is _ _ c.neg-then-lt.ensures ∙ limit-low _ _ (first _ _ (c.lt.ensures ∙ law.lt_is _ _) (law.neg_is _ _ c.neg.ensures) c.if-lt.true)

pub returns-then-lt-2 : goal.returns-then-lt-2
returns-then-lt-2 g c =
    let law = g.met.T.Binary in
    limit-high _ _ (first _ _ (c.lt.ensures ∙ law.lt_is _ _) (law.neg_is _ _ c.neg.ensures) c.if-lt.false) (sym (c.lt-else-lt.ensures ∙ law.lt_is _ _) ∙ c.if-lt-2.true)

pub returns-else-lt-2 : goal.returns-else-lt-2
returns-else-lt-2 g c =
    let law = g.met.T.Binary in
    limit-none _ _ (first _ _ (c.lt.ensures ∙ law.lt_is _ _) (law.neg_is _ _ c.neg.ensures) c.if-lt.false) (sym (c.lt-else-lt.ensures ∙ law.lt_is _ _) ∙ c.if-lt-2.false)
