-- `answers::same_bytes` meets its contract, by the loop's invariant. Assumes nothing.
use Rattle.std.proofs.Common.{refl, arith, eq-eqb, ne_eqb}
use Rattle.answers.proofs.Laws.Slices.{uneven, ends, differs, goes_on}
use Rattle.answers.proofs.slices.same_bytes.Goals as goal

pub returns-then-a-b : goal.returns-then-a-b
returns-then-a-b c = let a = c.args in uneven (λ n. n) a.a.now a.b.now c.if-a-b.true

pub loop-k-init : goal.loop-k-init
loop-k-init c = record { equal = c.if-a-b.false; within = omega arith; rest = refl }

pub returns-then-a-k : goal.returns-then-a-k
returns-then-a-k c = differs c.loop-k.invariant c.loop-k-test.true 0 (ne_eqb _ _ c.if-a-k.true)

pub loop-k-preserved : goal.loop-k-preserved
loop-k-preserved c = goes_on c.loop-k.invariant c.loop-k-test.true 0 (eq-eqb _ _ c.if-a-k.false)

pub returns : goal.returns
returns c = ends c.loop-k.invariant c.loop-k-test.false
