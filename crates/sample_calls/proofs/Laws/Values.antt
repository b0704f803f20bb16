-- The values that a receiver was set up with stay: every call keeps them, and so does a list of calls.
-- Assumes nothing.
use mathlib.Core.Bool.{Bool, true, false, cond}
use mathlib.Core.List.{List, [], ◌∷◌}
use lib.Dec.{eqb}
use lib.ListN.{length}
use lib.Ieee.{Float}
use Rattle.values.specs.declared.error.Refusal.TheVariants.{Uneven, Odd}
use Rattle.values.specs.Calls.{after_by}
use Rattle.timing.specs.Run.{ran}
use Rattle.constellations.specs.declared.kinds.CostasConstellation.{CostasConstellation}
use Rattle.timing.specs.declared.params.TimingValues.{TimingValues}
use Rattle.carrier.specs.declared.params.CarrierValues.{CarrierValues}
use Rattle.receiver.specs.Record.{Receiver, SetUpWith}
use Rattle.sample_calls.specs.Call.{Outcome, refused_call, done, odd_any, called}
use Rattle.sample_calls.specs.Calls.{Call, call_of, after}

module _ {k : CostasConstellation} {t : TimingValues} {c : CarrierValues} where
  pub called-with : (r : Receiver) (xs zs ys : List Float) → SetUpWith k t c r → SetUpWith k t c (called r xs zs ys).receiver
  unfolding called done ran
  called-with r xs zs ys w = go (odd_any xs zs ys) (eqb (length zs) (length ys))
    where
      go : (o e : Bool) → SetUpWith k t c (cond {A = Outcome} o (refused_call Odd r zs ys) (cond e (done r xs zs ys) (refused_call Uneven r zs ys))).receiver
      go true e = w
      go false true = record { constellation = w.constellation; timing = w.timing; carrier = w.carrier }
      go false false = w

  pub after-with : (r : Receiver) (cs : List Call) → SetUpWith k t c r → SetUpWith k t c (after r cs)
  unfolding after_by
  after-with r [] w = w
  after-with r (x ∷ cs) w = after-with (call_of r x).receiver cs (called-with r x.input x.strobes x.output w)
