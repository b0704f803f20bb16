-- A10: no count of a sample call is above what its buffers have, a place is left over only where all input is
-- consumed, and every place past those produced is as found, in both buffers. Assumes nothing.
use mathlib.Core.Path.{◌≡◌, refl, ◌∙◌, subst}
use mathlib.Core.Bool.{Bool, true, false}
use mathlib.Core.List.{List}
use Prim.Native.Nat.{ℕ, ◌*◌, ◌<◌}
use native.Mathlib.Omega.{arith}
use borrow.Author.Tests.{eqb-true, eqb-false}
use lib.Dec.{lit<, eqb}
use lib.ListN.{length, take, drop, length-take}
use lib.Seq.{drop-append_seam}
use lib.Ieee.{Float}
use Rattle.values.specs.declared.error.Refusal.{Refusal}
use Rattle.values.specs.declared.error.Refusal.TheVariants.{Uneven, Odd}
use Rattle.values.specs.Refusal.{number_of}
use Rattle.values.specs.Buffers.{written}
use Rattle.values.proofs.Laws.Buffers.{written-length}
use Rattle.timing.specs.Run.{done_complex}
use Rattle.timing.proofs.Laws.Run.{done_complex-sparing}
use Rattle.carrier.specs.Run as carrier
use Rattle.carrier.proofs.Laws.Count.{done-length}
use Rattle.receiver.specs.Record.{Receiver}
use Rattle.sample_calls.specs.Call.{refused_call, done, odd_any, called}
use Rattle.sample_calls.specs.Sparing.{Sparing}
use Rattle.sample_calls.proofs.Laws.Refused.{called-odd, called-uneven, called-done}

refused-sparing : (n : Refusal) (r : Receiver) (xs zs ys : List Float) → 0 < number_of n → Sparing xs zs ys (refused_call n r zs ys)
refused-sparing n r xs zs ys h = record { produced = omega arith; consumed = omega arith; all = λ e l. absurd (omega arith); strobes-rest = refl; output-rest = refl; strobes-length = refl; output-length = refl }

done-sparing : (r : Receiver) (xs zs ys : List Float) → length zs ≡ length ys → Sparing xs zs ys (done r xs zs ys)
unfolding done
done-sparing r xs zs ys equal =
    let s = r.timing in
    let t = done_complex s xs zs in
    let p = done_complex-sparing s xs zs in
    let w = take (2 * t.produced) t.output in
    let a = p.produced in
    let b = p.same_length in
    let l : length w ≡ 2 * t.produced = rw length-take (omega arith) in
    let v = (carrier.done r.carrier w).output in
    let long : length v ≡ 2 * t.produced = done-length r.carrier w (omega arith) ∙ l in
    record {
      produced = omega arith;
      consumed = p.consumed;
      all = λ e h. p.all refl (omega arith);
      strobes-rest = p.rest;
      output-rest = subst (λ (n : ℕ). drop n (written v ys) ≡ drop n ys) long (drop-append_seam v (drop (length v) ys));
      strobes-length = p.same_length;
      output-length = written-length v ys (omega arith);
    }

pub called-sparing : (r : Receiver) (xs zs ys : List Float) → Sparing xs zs ys (called r xs zs ys)
called-sparing r xs zs ys = go (odd_any xs zs ys) (eqb (length zs) (length ys)) refl refl
  where
    go : (o e : Bool) → odd_any xs zs ys ≡ o → eqb (length zs) (length ys) ≡ e → Sparing xs zs ys (called r xs zs ys)
    go true e h k = rw (called-odd r xs zs ys h) (refused-sparing Odd r xs zs ys (lit< tt))
    go false true h k = let q = eqb-true (length zs) (length ys) k in rw (called-done r xs zs ys h q) (done-sparing r xs zs ys q)
    go false false h k = rw (called-uneven r xs zs ys h (eqb-false (length zs) (length ys) k)) (refused-sparing Uneven r xs zs ys (lit< tt))
