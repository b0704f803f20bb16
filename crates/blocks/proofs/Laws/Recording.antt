-- B3: how a recording is cut does not show: from any given receiver, all ways of cutting it into calls,
-- after which nothing is left, give the same strobes, outputs, instants, counts and record. Assumes nothing.
use mathlib.Core.Path.{◌≡◌, refl, sym, ap, ap₂, ◌∙◌, subst}
use mathlib.Core.Bool.{Bool, true, false}
use mathlib.Core.List.{List, [], ◌∷◌, ◌++◌, map, append_assoc, append-nil}
use Prim.Native.Nat.{ℕ, ◌+◌, ◌-◌, ◌/◌, ◌≤◌}
use native.Mathlib.Omega.{arith}
use lib.ListN.{length, drop, length-append, length-map}
use lib.Ieee.{Float}
use Rattle.values.specs.declared.sample.C32.{C32}
use Rattle.values.specs.Samples.{samples}
use Rattle.values.proofs.Laws.Samples.{samples-append, samples-rest}
use Rattle.timing.specs.Sample.{complex}
use Rattle.timing.proofs.Laws.Run.{ran-produced}
use Rattle.receiver.specs.Record.{Receiver, Given}
use Rattle.sample_calls.specs.Call.{accepts}
use Rattle.sample_calls.specs.Calls.{Call}
use Rattle.sample_calls.proofs.Laws.Given.{called-given}
use Rattle.sample_calls.proofs.Laws.Refused.{accepted-whole}
use Rattle.blocks.specs.Instants.{later}
use Rattle.blocks.specs.Receiver.{Waiting, start, handed, waits_after, Heard, heard_on, joined, recorded, heard, waits, left}
use Rattle.blocks.proofs.Laws.Received.{received, received-instants, call-received, refused-unheard, refused-waits, unheard-first, received-joined, received-nothing}

-- the places of all calls
unfoldable places : List Call → ℕ
places [] = 0
places (c ∷ cs) = length c.strobes / 2 + places cs

-- ---- any cut is one run over the recording, with as many places as its calls have or more
-- what is to be shown of the calls cs, after w
abbrev OneRun : List Call → Type 0
OneRun cs = (w : Waiting) (m : ℕ) → Given w.receiver → places cs ≤ m → (waits w cs).rest ≡ [] → heard w cs ≡ received w.receiver (samples (w.rest ++ recorded cs)) m

module _ (w : Waiting) (c : Call) (cs : List Call) (m : ℕ) (given : Given w.receiver) (room : length c.strobes / 2 + places cs ≤ m) (none : (waits (waits_after w c) cs).rest ≡ []) (others : OneRun cs) where
  abbrev xs : List Float
  xs = handed w c

  abbrev after : List C32 → Heard
  after l = received w.receiver l m

  -- a call that is not refused, and those after it
  call-first : accepts xs c.strobes c.output ≡ true → joined (heard_on w c) (heard (waits_after w c) cs) ≡ after (samples (xs ++ recorded cs))
  call-first h =
      let n = length c.strobes / 2 in
      let q = heard_on w c in
      let e = call-received w c h in
      let even = (accepted-whole xs c.strobes c.output h).0 in
      let few : q.produced ≤ n = subst (λ (p : Heard). p.produced ≤ n) (sym e) (ran-produced complex w.receiver.timing (samples xs) n) in
      ap (joined q) (others (waits_after w c) (m - q.produced) (called-given w.receiver xs c.strobes c.output given) (omega arith) none)
      ∙ ap (λ (l : List C32). joined q (received q.receiver l (m - q.produced))) (samples-rest q.consumed xs (recorded cs) even)
      ∙ ap (λ (p : Heard). joined p (received p.receiver (drop p.consumed (samples xs) ++ samples (recorded cs)) (m - p.produced))) e
      ∙ received-joined w.receiver given (samples xs) (samples (recorded cs)) n m (omega arith)
      ∙ ap after (sym (samples-append xs (recorded cs) even))

  -- a refused one, and those after it
  refused-first : accepts xs c.strobes c.output ≡ false → joined (heard_on w c) (heard (waits_after w c) cs) ≡ after (samples (xs ++ recorded cs))
  refused-first h =
      let stays = refused-waits w c h in
      ap₂ joined (refused-unheard w c h) (ap (λ (v : Waiting). heard v cs) stays)
      ∙ unheard-first w.receiver (heard (record { receiver = w.receiver; rest = xs }) cs)
      ∙ others (record { receiver = w.receiver; rest = xs }) m given (omega arith) (ap (λ (v : Waiting). (waits v cs).rest) (sym stays) ∙ none)

  first_one : joined (heard_on w c) (heard (waits_after w c) cs) ≡ after (samples (xs ++ recorded cs))
  first_one = go (accepts xs c.strobes c.output) refl
    where
      go : (b : Bool) → accepts xs c.strobes c.output ≡ b → joined (heard_on w c) (heard (waits_after w c) cs) ≡ after (samples (xs ++ recorded cs))
      go true h = call-first h
      go false h = refused-first h

one-run : (cs : List Call) → OneRun cs
unfolding heard waits recorded places samples
one-run [] w m given room none = sym (received-nothing w.receiver given m) ∙ ap (λ (l : List Float). received w.receiver (samples l) m) (sym (append-nil w.rest ∙ none))
one-run (c ∷ cs) w m given room none = first_one w c cs m given room none (one-run cs) ∙ ap (λ (l : List Float). received w.receiver (samples l) m) (append_assoc w.rest c.input (recorded cs))

-- ---- so no two ways of cutting it differ
module _ (r : Receiver) (given : Given r) (cs ds : List Call) (same : recorded cs ≡ recorded ds) where
  pub cut-never-shows : left r cs ≡ [] → left r ds ≡ [] → heard (start r) cs ≡ heard (start r) ds
  cut-never-shows none nothing =
      let m = places cs + places ds in
      one-run cs (start r) m given (omega arith) none ∙ ap (λ (l : List Float). received r (samples l) m) same ∙ sym (one-run ds (start r) m given (omega arith) nothing)

-- the record that the calls give is the one that they leave
pub heard-receiver : (cs : List Call) (w : Waiting) → (heard w cs).receiver ≡ (waits w cs).receiver
unfolding heard waits
heard-receiver [] w = refl
heard-receiver (c ∷ cs) w = heard-receiver cs (waits_after w c)

-- ---- each symbol has its instant
pub one-instant-each : (cs : List Call) (w : Waiting) → length (heard w cs).instants ≡ (heard w cs).produced
unfolding heard
one-instant-each [] w = refl
one-instant-each (c ∷ cs) w =
    let q = heard_on w c in
    let h = heard (waits_after w c) cs in
    omega (arith, length-append q.instants (map (later q.consumed) h.instants), length-map h.instants (later q.consumed), call-instants (accepts (handed w c) c.strobes c.output) refl, one-instant-each cs (waits_after w c))
  where
    call-instants : (b : Bool) → accepts (handed w c) c.strobes c.output ≡ b → length (heard_on w c).instants ≡ (heard_on w c).produced
    call-instants true e = subst (λ (q : Heard). length q.instants ≡ q.produced) (sym (call-received w c e)) (received-instants w.receiver (samples (handed w c)) (length c.strobes / 2))
    call-instants false e = subst (λ (q : Heard). length q.instants ≡ q.produced) (sym (refused-unheard w c e)) refl
