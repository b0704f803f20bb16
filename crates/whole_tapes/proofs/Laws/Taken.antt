-- O8: the call that a command of samples makes is never refused and takes all of them, and at most 1,438 symbols come of
-- it, whatever the receiver has received before: so nothing is left between commands. Assumes nothing.
use mathlib.Core.Path.{◌≡◌, refl}
use mathlib.Core.List.{List}
use Prim.Native.Nat.{ℕ, ◌*◌, ◌/◌, ◌≤◌}
use native.Mathlib.Omega.{arith}
use lib.ListN.{length, length-take, length-drop, take, drop}
use lib.Ieee.{Float}
use Rattle.little_endian.proofs.Laws.Floats.{length-floats}
use Rattle.receiver.specs.Record.{Receiver, Given}
use Rattle.sample_calls.specs.Call.{called}
use Rattle.density.specs.Strobes.{TakesAll}
use Rattle.density.proofs.Laws.Calls.{called-all}
use Rattle.tape.specs.Reading.{count_of, samples_end, sample_parts, samples}
use Rattle.tape.specs.Reads.{Reads, is-samples}
use Rattle.tape.specs.Steps.{places}

-- n samples have 2 n parts
parts-long : (l : List ℕ) (n : ℕ) → samples_end n ≤ length l → length (sample_parts l n) ≡ 2 * n
parts-long l n h =
    let bs = take (8 * n) (drop 3 l) in
    let f = length-floats bs in
    let e : length bs ≡ 8 * n = rw (length-take, length-drop) (omega arith) in
    omega arith

pub samples-taken : (r : Receiver) → Given r → (l : List ℕ) {xs : List Float} {end : ℕ} → Reads l (samples xs end) → TakesAll (length xs / 2) (called r xs places places)
samples-taken r g l (is-samples h e k) =
    let n = parts-long l (count_of l) h in
    called-all r g (sample_parts l (count_of l)) places places (omega arith) (omega arith) refl refl
