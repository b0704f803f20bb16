-- L2: a refused call leaves the very same record. Assumes nothing.
use mathlib.Core.Path.{◌≡◌, ap}
use Prim.Native.Nat.{◌<◌}
use native.Mathlib.Omega.{arith}
use mathlib.Core.Bool.{Bool, true, false, cond}
use mathlib.Core.List.{List}
use lib.Dec.{eqb}
use lib.ListN.{length}
use lib.Ieee.{Float}
use Rattle.values.specs.declared.error.Refusal.TheVariants.{Uneven, Odd}
use Rattle.receiver.specs.Record as declaredReceiver
use Rattle.sample_calls.specs.Call.{Outcome, refused_call, odd_any, done, called}
use Rattle.values.specs.declared.counts.Counts.{Counts}
use Rattle.plain_receiver.specs.Receiver.{Receiver, receiver_of, outcome_of, Given}
use Rattle.plain.proofs.Laws.Recorded.{same-record}
use Rattle.plain_records.proofs.Laws.Faithful.{receiver-faithful}

-- an outcome with the receiver and the buffers that the call found
record AsFound (r : declaredReceiver.Receiver) (zs ys : List Float) (o : Outcome) : Type 0 where
  receiver : o.receiver ≡ r
  strobes : o.strobes ≡ zs
  output : o.output ≡ ys

-- A7: a call with another number than 0
called-as-found : (r : declaredReceiver.Receiver) (xs zs ys : List Float) (o : Outcome) → o ≡ called r xs zs ys → 0 < o.number → AsFound r zs ys o
unfolding called done
called-as-found r xs zs ys o = by (odd_any xs zs ys) (eqb (length zs) (length ys))
  where
    by : (odd equal : Bool) → o ≡ cond odd (refused_call Odd r zs ys) (cond equal (done r xs zs ys) (refused_call Uneven r zs ys)) → 0 < o.number → AsFound r zs ys o
    by true equal e h = record { receiver = ap (λ (q : Outcome). q.receiver) e; strobes = ap (λ (q : Outcome). q.strobes) e; output = ap (λ (q : Outcome). q.output) e }
    by false true e h = absurd (omega (arith, ap (λ (q : Outcome). q.number) e))
    by false false e h = record { receiver = ap (λ (q : Outcome). q.receiver) e; strobes = ap (λ (q : Outcome). q.strobes) e; output = ap (λ (q : Outcome). q.output) e }

-- L2: the contract of `trr_receiver_receive` says so of the record itself: a call that answers another number than 0
-- leaves the record x and both buffers as it found them
pub refused-as-found : (x y : Receiver) (a : Counts) (xs zs ys zs₁ ys₁ : List Float) → Given x → Given y → outcome_of a y zs₁ ys₁ ≡ called (receiver_of x) xs zs ys → 0 < a.number → (y ≡ x) × ((zs₁ ≡ zs) × (ys₁ ≡ ys))
refused-as-found x y a xs zs ys zs₁ ys₁ g h e n =
    let f = called-as-found (receiver_of x) xs zs ys (outcome_of a y zs₁ ys₁) e n in
    (same-record receiver-faithful h g f.receiver, (f.strobes, f.output))
