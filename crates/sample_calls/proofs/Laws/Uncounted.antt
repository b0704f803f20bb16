-- R24: the symbol count steers nothing: receivers that differ in it alone answer the same, write the same strobes and
-- symbols, and leave the same loops. Assumes nothing.
use mathlib.Core.Path.{◌≡◌, refl, sym, ap, ◌∙◌}
use mathlib.Core.Bool.{Bool, true, false, cond}
use mathlib.Core.List.{List, [], ◌∷◌}
use lib.Dec.{eqb}
use lib.ListN.{length}
use lib.Ieee.{Float}
use Rattle.values.specs.declared.error.Refusal.TheVariants.{Uneven, Odd}
use Rattle.values.specs.Calls.{outcomes_by, after_by}
use Rattle.receiver.specs.Record.{Receiver}
use Rattle.sample_calls.specs.Call.{Outcome, refused_call, done, odd_any, called}
use Rattle.sample_calls.specs.Calls.{Call, call_of}
use Rattle.sample_calls.specs.Uncounted.{uncounted, uncounted_outcome, SameButCount}

-- how a call ends
abbrev ends : Receiver → List Float → List Float → List Float → Bool → Bool → Outcome
ends r xs zs ys odd equal = cond odd (refused_call Odd r zs ys) (cond equal (done r xs zs ys) (refused_call Uneven r zs ys))

-- one call, with the count and without
call-uncounted : (r : Receiver) (xs zs ys : List Float) → uncounted_outcome (called r xs zs ys) ≡ uncounted_outcome (called (uncounted r) xs zs ys)
unfolding called done
call-uncounted r xs zs ys = by (odd_any xs zs ys) (eqb (length zs) (length ys))
  where
    by : (odd equal : Bool) → uncounted_outcome (ends r xs zs ys odd equal) ≡ uncounted_outcome (ends (uncounted r) xs zs ys odd equal)
    by true equal = refl
    by false true = refl
    by false false = refl

same-call : (r s : Receiver) (c : Call) → uncounted r ≡ uncounted s → uncounted_outcome (call_of r c) ≡ uncounted_outcome (call_of s c)
same-call r s c e = call-uncounted r c.input c.strobes c.output ∙ ap (λ (q : Receiver). uncounted_outcome (call_of q c)) e ∙ sym (call-uncounted s c.input c.strobes c.output)

pub count-never-shows : (r s : Receiver) (cs : List Call) → uncounted r ≡ uncounted s → SameButCount r s cs
unfolding outcomes_by after_by
count-never-shows r s [] e = record { outcomes = refl; afterwards = e }
count-never-shows r s (c ∷ cs) e =
    let o = same-call r s c e in
    let next = count-never-shows (call_of r c).receiver (call_of s c).receiver cs (ap (λ (q : Outcome). q.receiver) o) in
    record { outcomes = λ j. o j ∷ next.outcomes j; afterwards = next.afterwards }
