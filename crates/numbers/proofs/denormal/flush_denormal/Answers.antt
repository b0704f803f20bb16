-- `numbers::denormal::flush_denormal` meets its contract, by the laws for both formats. Assumes nothing.
use mathlib.Core.Path.{◌≡◌, sym, ap, ◌∙◌}
use mathlib.Core.Bool.{Bool}
use lib.Ieee.{Float, lt, neg}
use Rattle.numbers.proofs.Laws.Denormal.{flush-inside, flush-above, flush-below}
use Rattle.numbers.proofs.denormal.flush_denormal.Goals as goal
use Rattle.numbers.proofs.denormal.flush_denormal.Goals.{else-lt-via-then-lt+else-lt-2, else-lt-via-else-lt}

-- the first test, whose answer is r, compares with n, the opposite of the threshold t
first : (x : Float) {n t z : Float} {r b : Bool} → r ≡ lt n x → n ≡ neg z → z ≡ t → r ≡ b → lt (neg t) x ≡ b
first x e h i k = sym (e ∙ ap (λ (y : Float). lt y x) (h ∙ ap neg i)) ∙ k

-- the second compares with the threshold
second : (x : Float) {t z : Float} {r b : Bool} → r ≡ lt x z → z ≡ t → r ≡ b → lt x t ≡ b
second x e i k = sym (e ∙ ap (lt x) i) ∙ k

pub returns-then-lt-2 : goal.returns-then-lt-2
returns-then-lt-2 g c =
    let law = g.met.T.Binary in
    let value = g.T.Binary.value in
    let tiny_is = g.met.T.Flushed.tiny_is in
    ap value c.ZERO.ensures ∙ law.zero_is
    ∙ flush-inside g.T.Binary.format (value c.args.x)
    (first _ (c.lt.ensures ∙ law.lt_is _ _) (law.neg_is _ _ c.neg.ensures) (ap value c.TINY.ensures ∙ tiny_is) c.if-lt.true)
    (second _ (c.lt-then-lt.ensures ∙ law.lt_is _ _) (ap value c.TINY-then-lt.ensures ∙ tiny_is) c.if-lt-2.true)

pub returns-else-lt : goal.returns-else-lt
returns-else-lt g c =
    let law = g.met.T.Binary in
    let value = g.T.Binary.value in
    let tiny_is = g.met.T.Flushed.tiny_is in
    let f = g.T.Binary.format in
    elim c.else-lt.branch [
      | else-lt-via-then-lt+else-lt-2 w ↦
          flush-above f (value c.args.x)
          (first _ (c.lt.ensures ∙ law.lt_is _ _) (law.neg_is _ _ c.neg.ensures) (ap value c.TINY.ensures ∙ tiny_is) w.if-lt.true)
          (second _ (w.lt-then-lt.ensures ∙ law.lt_is _ _) (ap value w.TINY-then-lt.ensures ∙ tiny_is) w.if-lt-2.false)
      | else-lt-via-else-lt w ↦
          flush-below f (value c.args.x)
          (first _ (c.lt.ensures ∙ law.lt_is _ _) (law.neg_is _ _ c.neg.ensures) (ap value c.TINY.ensures ∙ tiny_is) w.if-lt.false)
    ]
