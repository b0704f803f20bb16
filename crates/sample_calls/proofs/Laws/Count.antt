-- R18: each call adds to the symbol count what it produced, a refused one nothing; after a list of calls the count has
-- grown by the sum produced, and it is never above 18,446,744,073,709,551,615. Assumes nothing.
use mathlib.Core.Path.{◌≡◌, refl, sym, ap, ◌∙◌}
use mathlib.Core.Bool.{Bool, true, false, cond}
use mathlib.Core.List.{List, [], ◌∷◌}
use Prim.Native.Nat.{ℕ, ◌+◌, ◌-◌, ◌^◌, min}
use lib.Dec.{eqb}
use lib.ListN.{length}
use lib.Ieee.{Float}
use Rattle.values.specs.declared.error.Refusal.TheVariants.{Uneven, Odd}
use Rattle.values.specs.Calls.{outcomes_by, after_by}
use Rattle.values.specs.Counter.{count_after}
use Rattle.values.proofs.Laws.Counter.{count-stops, count_none, count-twice}
use Rattle.receiver.specs.Record.{Receiver, Given}
use Rattle.sample_calls.specs.Call.{Outcome, refused_call, done, odd_any, called}
use Rattle.sample_calls.specs.Calls.{Call, call_of, outcomes, after, produced_in}
use Rattle.sample_calls.proofs.Laws.Given.{called-given}

pub called-count : (r : Receiver) (xs zs ys : List Float) → Given r → let o = called r xs zs ys in o.receiver.count ≡ count_after r.count o.produced
unfolding called done
called-count r xs zs ys g = go (odd_any xs zs ys) (eqb (length zs) (length ys))
  where
    same : r.count ≡ count_after r.count 0
    same = sym (count_none r.count g.count-in)

    go : (o e : Bool) → let q = cond {A = Outcome} o (refused_call Odd r zs ys) (cond e (done r xs zs ys) (refused_call Uneven r zs ys)) in q.receiver.count ≡ count_after r.count q.produced
    go true e = same
    go false true = refl
    go false false = same

-- ---- a list of calls
after-counted : (r : Receiver) (cs : List Call) → Given r → (after r cs).count ≡ count_after r.count (produced_in (outcomes r cs))
unfolding produced_in outcomes_by after_by
after-counted r [] g = sym (count_none r.count g.count-in)
after-counted r (c ∷ cs) g =
    let o = call_of r c in
    let n = produced_in (outcomes o.receiver cs) in
    after-counted o.receiver cs (called-given r c.input c.strobes c.output g)
    ∙ ap (λ (x : ℕ). count_after x n) (called-count r c.input c.strobes c.output g)
    ∙ count-twice r.count o.produced n

pub after-count : (r : Receiver) (cs : List Call) → Given r → (after r cs).count ≡ min (r.count + produced_in (outcomes r cs)) (2 ^ 64 - 1)
after-count r cs g = after-counted r cs g ∙ count-stops r.count (produced_in (outcomes r cs))
