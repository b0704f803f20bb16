-- `answers::alike` meets its contract. Assumes nothing.
use mathlib.Core.Path.{◌≡◌, sym, ap, ◌∙◌}
use mathlib.Core.Bool.{Bool, not}
use lib.Ieee.{Float, eq, ne}
use Rattle.answers.proofs.Laws.Alike.{alike-nan}
use Rattle.answers.proofs.compare.alike.Goals as goal

unequal : (x y : Float) {e r : Bool} → r ≡ not e → e ≡ eq x y → r ≡ ne x y
unfolding ne
unequal x y h k = h ∙ ap not k

pub returns-then-ne : goal.returns-then-ne
returns-then-ne g c =
    let law = g.met.T.Binary in
    let x = g.T.Binary.value c.args.x in
    let y = g.T.Binary.value c.args.y in
    unequal y y c.ne-then-ne.ensures (law.eq_is _ _)
    ∙ alike-nan x y (sym (c.eq.ensures ∙ law.eq_is _ _) ∙ c.if-eq.false) (sym (unequal x x c.ne.ensures (law.eq_is _ _)) ∙ c.if-ne.true)
