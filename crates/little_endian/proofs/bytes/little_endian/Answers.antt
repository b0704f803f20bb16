-- `little_endian::little_endian` meets its contract. The loop's invariant: what the bytes that are left spell in front of
-- the value is the number of all. Assumes nothing.
use Rattle.std.proofs.Common.{sym, ap, ◌∙◌, ℕ, List, arith}
use Rattle.little_endian.specs.Bytes.{little_endian}
use Rattle.little_endian.proofs.Laws.LittleEndian.{eight-below, first-eight, onto, onto-none, onto-last, last-fits, all-spelled}
use Rattle.little_endian.proofs.bytes.little_endian.Goals as goal

pub loop-b-init : goal.loop-b-init
loop-b-init c =
    let l = c.args.bytes.now in
    onto-none c.into_iter-b-iterator.result.iter.rest.now ∙ ap little_endian ((λ j. (c.into_iter-b-iterator.ensures.into_iter_gives j).iter.rest.now) ∙ (λ j. (c.rev-b-items.ensures.source j).rest.now) ∙ c.iter.ensures.rest ∙ first-eight l c.min-end.result c.min-end.ensures)

pub overflow_add-value : goal.overflow_add-value
overflow_add-value c =
    let l = c.args.bytes.now in
    record { fits = last-fits l (λ k. (c.type_inv.bytes k).fits) c.next.new.self.iter.rest.now c.in-Some.b.now c.loop-b.value (ap (λ (m : List ℕ). onto m c.loop-b.value) (sym c.in-Some.ensures.steps) ∙ c.loop-b.invariant) }

pub overflow_mul-value : goal.overflow_mul-value
overflow_mul-value c =
    let l = c.args.bytes.now in
    let h = last-fits l (λ k. (c.type_inv.bytes k).fits) c.next.new.self.iter.rest.now c.in-Some.b.now c.loop-b.value (ap (λ (m : List ℕ). onto m c.loop-b.value) (sym c.in-Some.ensures.steps) ∙ c.loop-b.invariant) in
    record { fits = omega arith }

pub loop-b-preserved : goal.loop-b-preserved
loop-b-preserved c = sym (onto-last c.next.new.self.iter.rest.now c.in-Some.b.now c.loop-b.value) ∙ ap (λ (m : List ℕ). onto m c.loop-b.value) (sym c.in-Some.ensures.steps) ∙ c.loop-b.invariant

pub returns-clause-value : goal.returns-clause-value
returns-clause-value c = all-spelled c.loop-b.b-iterator.iter.rest.now c.in-None.ensures.steps.0 c.loop-b.invariant

pub returns-clause-below : goal.returns-clause-below
returns-clause-below c = let e = all-spelled c.loop-b.b-iterator.iter.rest.now c.in-None.ensures.steps.0 c.loop-b.invariant in rw e (eight-below c.args.bytes.now (λ k. (c.type_inv.bytes k).fits))
