-- `numbers::range::is_finite` meets its contract, by the law for both formats. Assumes nothing.
use mathlib.Core.Path.{ap, ◌∙◌}
use lib.Ieee.{eq}
use Rattle.numbers.proofs.Laws.Range.{finite-test}
use Rattle.numbers.proofs.range.is_finite.Goals as goal

pub returns : goal.returns
returns g c =
    let law = g.met.T.Binary in
    let value = g.T.Binary.value in
    c.eq.ensures ∙ law.eq_is _ _ ∙ (λ j. eq (law.sub_is _ _ _ c.sub.ensures j) ((ap value c.ZERO.ensures ∙ law.zero_is) j)) ∙ finite-test g.T.Binary.format (value c.args.x)
