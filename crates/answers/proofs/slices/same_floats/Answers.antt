-- `answers::same_floats` meets its contract: `all` tests every pair. Assumes nothing.
use Rattle.std.proofs.Common.{rules, ◌∙◌}
use Rattle.std.proofs.lemmas.Iterator.{YieldsList-from_slice, YieldsList-from_zip}
use Rattle.std.proofs.lemmas.Iterator.Search.{all_from_yields_List}
use borrow.Author.Tests.{tests}
use lib.Ieee.{Float, binary32, to_bits}
use lib.Dec.{eqb}
use Rattle.answers.proofs.Laws.Slices.{pairs_agree}
use Rattle.answers.proofs.slices.same_floats.Goals as goal

pub returns-then-a-b : goal.returns-then-a-b
returns-then-a-b c =
    let a = c.args.a.now in
    let b = c.args.b.now in
    all_from_yields_List (λ (p : Float × Float). eqb (to_bits binary32 p.0) (to_bits binary32 p.1)) c.all.new.self _ c.all.result c.all.ensures.ran
    (YieldsList-from_zip (YieldsList-from_slice a (cc)) (YieldsList-from_slice b (cc)))
    (λ x r q k. search (rules, tests))
    ∙ pairs_agree _ a b c.if-a-b.true
