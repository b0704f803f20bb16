-- A9: a given receiver stays given in a sample call, refused or not. Assumes nothing.
use Prim.Native.Nat.{◌*◌, ◌/◌}
use mathlib.Core.Bool.{Bool, true, false, cond}
use mathlib.Core.List.{List}
use lib.Dec.{eqb}
use lib.ListN.{length, take}
use lib.Ieee.{Float}
use Rattle.values.specs.declared.error.Refusal.TheVariants.{Uneven, Odd}
use Rattle.values.specs.Samples.{samples}
use Rattle.values.proofs.Laws.Counter.{count-below}
use Rattle.timing.specs.Sample.{complex}
use Rattle.timing.specs.Run.{done_complex}
use Rattle.timing.proofs.Laws.Run.{ran-given}
use Rattle.carrier.proofs.Laws.Given as carrier
use Rattle.receiver.specs.Record.{Receiver, Given}
use Rattle.sample_calls.specs.Call.{Outcome, refused_call, done, odd_any, called}

done-given : (r : Receiver) (xs zs ys : List Float) → Given r → Given (done r xs zs ys).receiver
unfolding done
done-given r xs zs ys g =
    let t = done_complex r.timing xs zs in
    record {
      timing = ran-given complex r.timing (samples xs) (length zs / 2) g.timing;
      carrier = carrier.done-given r.carrier (take (2 * t.produced) t.output) g.carrier;
      count-in = count-below r.count t.produced;
    }

pub called-given : (r : Receiver) (xs zs ys : List Float) → Given r → Given (called r xs zs ys).receiver
unfolding called
called-given r xs zs ys g = go (odd_any xs zs ys) (eqb (length zs) (length ys))
  where
    go : (o e : Bool) → Given (cond {A = Outcome} o (refused_call Odd r zs ys) (cond e (done r xs zs ys) (refused_call Uneven r zs ys))).receiver
    go true e = g
    go false true = done-given r xs zs ys g
    go false false = g
