-- `carrier::set_up` meets its contract: the tests that led to an answer are the rows that the definition goes by.
-- Assumes nothing.
use Rattle.std.specs.Prelude.{Ok, Err}
use Rattle.std.proofs.Common.{◌≡◌, Bool, sym, ap, ◌∙◌, subst}
use lib.Ieee.{of_bits, round}
use Rattle.checks.proofs.Laws.Rows.{first-passed, first-refused}
use Rattle.carrier.specs.declared.params.Params.{Params}
use Rattle.carrier.specs.declared.state.CostasState.{CostasState}
use Rattle.carrier.specs.State.{params_of, fresh, opened, Given}
use Rattle.carrier.proofs.Laws.Setup.{all-passed}
use Rattle.carrier.proofs.Laws.Given.{fresh-given}
use Rattle.carrier.proofs.state.set_up.Goals as goal

-- what a test says of its row
row : {r t b : Bool} → r ≡ t → r ≡ b → t ≡ b
row e h = sym e ∙ h

pub returns-then-not-within-clause-outcome : goal.returns-then-not-within-clause-outcome
unfolding opened of_bits round
returns-then-not-within-clause-outcome c = sym (first-refused Err _ _ _ (row c.within.ensures c.if-not-within.true))

pub returns-then-not-within-2-clause-outcome : goal.returns-then-not-within-2-clause-outcome
unfolding opened of_bits round
returns-then-not-within-2-clause-outcome c = sym (first-passed Err _ _ _ (row c.within.ensures c.if-not-within.false) ∙ first-refused Err _ _ _ (row c.within-2.ensures c.if-not-within-2.true))

pub returns-then-not-within-3-clause-outcome : goal.returns-then-not-within-3-clause-outcome
unfolding opened of_bits round
returns-then-not-within-3-clause-outcome c = sym (first-passed Err _ _ _ (row c.within.ensures c.if-not-within.false) ∙ first-passed Err _ _ _ (row c.within-2.ensures c.if-not-within-2.false) ∙ first-refused Err _ _ _ (row c.within-3.ensures c.if-not-within-3.true))

pub returns : goal.returns
unfolding params_of of_bits round
returns c =
    let a = c.args in
    let s = c.start-s.ensures ∙ ap (λ (p : Params). fresh a.constellation p) c.params_of-p.ensures in
    let e = all-passed a.constellation a.v.loop_bw a.v.damping a.v.max_offset (row c.within.ensures c.if-not-within.false) (row c.within-2.ensures c.if-not-within-2.false) (row c.within-3.ensures c.if-not-within-3.false) in
    record { outcome = ap (λ (s : CostasState). Ok s) s ∙ sym e; given = subst (λ (s : CostasState). Given s) (sym s) (fresh-given a.constellation (params_of a.v.loop_bw a.v.damping a.v.max_offset) e) }
