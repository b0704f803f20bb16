-- `sample_calls::call::accepted` meets its contract: what the two runs come to, put together. Assumes nothing.
use mathlib.Core.Path.{◌≡◌}
use Prim.Native.Nat.{◌*◌, ◌≤◌}
use native.Mathlib.Omega.{arith}
use lib.ListN.{length, length-take}
use mathlib.Core.List.{List}
use lib.Ieee.{Float}
use Rattle.timing.specs.Run.{done_complex}
use Rattle.complex_sync.specs.Views.{Recovered}
use Rattle.complex_sync.specs.Views.{recovered}
use Rattle.receiver.specs.Record.{Receiver}
use Rattle.sample_calls.proofs.Laws.Accepted.{fits-output, call-done}
use Rattle.sample_calls.proofs.Laws.Accepted as accepted
use Rattle.sample_calls.proofs.call.accepted.Goals as goal

-- what is known of the buffers once timing has run: they are equally long, and the strobes produced lie in them
record Room (t : Recovered) (zs ys : List Float) : Type 0 where
  same : length zs ≡ length ys
  fits : 2 * t.progress.produced ≤ length ys

room : (r : Receiver) (xs ws ys : List Float) → length ws ≡ length ys → (t : Recovered) (zs : List Float) → recovered t zs ≡ done_complex r.timing xs ws → Room t zs ys
room r xs ws ys h t zs e = record { same = accepted.same_length r xs ws ys h t zs e; fits = fits-output r xs ws ys h t zs e }

pub overflow_mul-n : goal.overflow_mul-n
overflow_mul-n c = let a = c.args in let h = room a.r a.input.now a.strobes.now a.output.now c.requires.equal c.recover-timed.result c.recover-timed.new.output c.recover-timed.ensures.outcome in record { fits = omega arith }

pub slice_bounds-carry-end : goal.slice_bounds-carry-end
slice_bounds-carry-end c = let a = c.args in let h = room a.r a.input.now a.strobes.now a.output.now c.requires.equal c.recover-timed.result c.recover-timed.new.output c.recover-timed.ensures.outcome in omega arith

pub slice_bounds-carry-end-2 : goal.slice_bounds-carry-end-2
slice_bounds-carry-end-2 c = let a = c.args in let h = room a.r a.input.now a.strobes.now a.output.now c.requires.equal c.recover-timed.result c.recover-timed.new.output c.recover-timed.ensures.outcome in rw length-take (omega arith)

pub returns : goal.returns
returns c =
    let k = c in
    let u = k in
    let s = u in
    let a = s.args in
    call-done a.r a.input.now a.strobes.now a.output.now s.requires.equal u.recover-timed.result u.recover-timed.new.output u.recover-timed.ensures.outcome k.carry-carrier.result k.carry-carrier.new.output k.carry-carrier.ensures.outcome c.counted.ensures
