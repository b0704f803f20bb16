-- No call on a block of whole samples is refused. Assumes nothing.
use mathlib.Core.Path.{◌≡◌, refl, ap, ◌∙◌}
use mathlib.Core.Bool.{Bool, true, false, cond}
use mathlib.Core.List.{List}
use Prim.Native.Nat.{ℕ, zero, suc, ◌*◌, ◌%◌}
use native.Mathlib.Omega.{arith}
use lib.ListN.{length, length-drop, drop}
use lib.Ieee.{Float}
use Rattle.receiver.specs.Record.{Receiver}
use Rattle.sample_calls.proofs.Laws.Refused.{all-even, called-number}
use Rattle.receive_recording.specs.declared.block.Received.{Received}
use Rattle.receive_recording.specs.Block.{places, call_on, called_of, ended_by, final, received}

pub call-accepted : (r : Receiver) (xs : List Float) → length xs % 2 ≡ 0 → (call_on r xs).number ≡ 0
call-accepted r xs even = called-number r xs places places ∙ ap (λ (b : Bool). cond b 8 0) (all-even xs places places (λ e. omega arith) (λ e. omega arith) (λ e. omega arith))

pub block-accepted : (n : ℕ) (r : Receiver) (none : ℕ) (xs : List Float) → length xs % 2 ≡ 0 → (received n r none xs).number ≡ 0
unfolding received
block-accepted zero r none xs even = refl
block-accepted (suc n) r none xs even =
    let z = called_of none (call_on r xs) in
    let rest = drop (2 * z.counts.consumed) xs in
    by (final xs (call_on r xs)) (received n z.receiver z.none rest) (block-accepted n z.receiver z.none rest (rw length-drop (omega arith)))
  where
    by : (b : Bool) (next : Received) → next.number ≡ 0 → (cond b (ended_by (called_of none (call_on r xs))) next).number ≡ 0
    by true next e = call-accepted r xs even
    by false next e = e
