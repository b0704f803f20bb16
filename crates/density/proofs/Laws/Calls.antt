-- A receiver's call takes no more strobes than a timing run can; so one on at most 2,048 samples, with 2,048 places,
-- takes all its samples. Assumes nothing.
use mathlib.Core.Path.{◌≡◌, sym, ap, ◌∙◌}
use mathlib.Core.Bool.{Bool, true, false, cond}
use mathlib.Core.List.{List}
use Prim.Native.Nat.{◌*◌, ◌/◌, ◌%◌, ◌≤◌}
use native.Mathlib.Omega.{arith}
use lib.Dec.{eqb}
use lib.ListN.{length}
use lib.Ieee.{Float}
use Rattle.values.specs.declared.error.Refusal.TheVariants.{Uneven, Odd}
use Rattle.values.specs.Samples.{samples}
use Rattle.values.proofs.Laws.Samples.{length-samples}
use Rattle.timing.specs.Sample.{complex}
use Rattle.receiver.specs.Record.{Receiver, Given}
use Rattle.sample_calls.specs.Call.{Outcome, refused_call, done, odd_any, called}
use Rattle.sample_calls.proofs.Laws.Refused.{all-even, called-done}
use Rattle.sample_calls.proofs.Laws.Sparing.{called-sparing}
use Rattle.density.specs.Strobes.{Sparse, room, strobes_most, TakesAll}
use Rattle.density.proofs.Laws.Runs.{ran-sparse}

module _ (r : Receiver) (g : Given r) (xs zs ys : List Float) where
  done-sparse : Sparse (length xs / 2) (done r xs zs ys).produced
  unfolding done
  done-sparse = let h = ran-sparse complex r.timing (samples xs) (length zs / 2) g.timing in let n = length-samples xs in omega arith

  -- a refused call takes none
  pub called-sparse : Sparse (length xs / 2) (called r xs zs ys).produced
  unfolding called
  called-sparse = go (odd_any xs zs ys) (eqb (length zs) (length ys))
    where
      go : (o e : Bool) → Sparse (length xs / 2) (cond {A = Outcome} o (refused_call Odd r zs ys) (cond e (done r xs zs ys) (refused_call Uneven r zs ys))).produced
      go true e = omega arith
      go false true = done-sparse
      go false false = omega arith

  pub called-few : length xs / 2 ≤ room → (called r xs zs ys).produced ≤ strobes_most
  called-few h = let k = called-sparse in omega arith

  pub called-all : length xs % 2 ≡ 0 → length xs / 2 ≤ room → length zs ≡ 2 * room → length ys ≡ 2 * room → TakesAll (length xs / 2) (called r xs zs ys)
  unfolding done
  called-all even short z y =
      let few = called-few short in
      let number = ap (λ (o : Outcome). o.number) (called-done r xs zs ys (all-even xs zs ys (λ h. omega arith) (λ h. omega arith) (λ h. omega arith)) (z ∙ sym y)) in
      record { number = number; consumed = (called-sparing r xs zs ys).all number (omega arith); produced = few }
