-- When nothing of a recording is left: where each call takes all that it is handed, which it does with more places
-- than samples (B4); and where what is left is handed again, as often as there are samples and once more (B5).
-- Assumes nothing.
use mathlib.Core.Path.{◌≡◌, refl, sym, ap, ◌∙◌, subst}
use mathlib.Core.Logic.{◌⊎◌, inl, inr}
use mathlib.Core.Bool.{true, not, ◌&&◌}
use mathlib.Core.List.{List, [], ◌∷◌, ◌++◌, append_assoc, append-nil}
use Prim.Native.Nat.{ℕ, zero, suc, ◌+◌, ◌-◌, ◌*◌, ◌/◌, ◌%◌, ◌≤◌, ◌<◌}
use native.Mathlib.Omega.{arith}
use borrow.Author.Tests.{eqb-true}
use lib.Dec.{eqb}
use lib.ListN.{length, drop, length-append, length-drop, drop_of_length-le}
use lib.Seq.{drop-nil}
use lib.Ieee.{Float}
use Rattle.ieee.proofs.Laws.Test.{order, both-tests}
use Rattle.values.specs.declared.sample.C32.{C32}
use Rattle.values.specs.Samples.{samples}
use Rattle.values.proofs.Laws.Samples.{length-samples}
use Rattle.timing.specs.Sample.{complex}
use Rattle.timing.specs.Run.{Ran, ran}
use Rattle.timing.proofs.Laws.Run.{ran-all}
use Rattle.receiver.specs.Record.{Receiver, Given}
use Rattle.sample_calls.specs.Call.{accepts, odd_any}
use Rattle.sample_calls.specs.Calls.{Call}
use Rattle.sample_calls.proofs.Laws.Given.{called-given}
use Rattle.sample_calls.proofs.Laws.Sparing.{called-sparing}
use Rattle.sample_calls.proofs.Laws.Refused.{all-even, accepted-whole}
use Rattle.blocks.specs.Receiver.{Waiting, start, handed, call_on, waits_after, Heard, heard_on, recorded, waits, left, TakesAll, Roomy, again, often_enough, APlace}
use Rattle.blocks.proofs.Laws.Onward.{ran-roomy, ran-nearer}
use Rattle.blocks.proofs.Laws.Received.{received, call-received, received-nothing}

-- ---- each call takes all that it is handed
pub takes-left : (cs : List Call) (w : Waiting) → w.rest ≡ [] → TakesAll w cs → (waits w cs).rest ≡ []
unfolding waits TakesAll
takes-left [] w none all = none
takes-left (c ∷ cs) w none all = takes-left cs (waits_after w c) (drop_of_length-le (handed w c) {i = 2 * (call_on w c).consumed} (omega (arith, all.0))) all.1

-- with more places than samples it does
roomy-consumes : (r : Receiver) (c : Call) → Given r → accepts c.input c.strobes c.output ≡ true → length c.input / 2 < length c.strobes / 2 → 2 * (call_on (start r) c).consumed ≡ length c.input
roomy-consumes r c given fits room =
    let s = r.timing in
    let xs = samples c.input in
    let n = length c.strobes / 2 in
    let taken = ap (λ (h : Heard). h.consumed) (call-received (start r) c fits) ∙ ran-roomy complex s xs n given.timing (omega (arith, length-samples c.input)) in
    omega (arith, taken, length-samples c.input, (accepted-whole c.input c.strobes c.output fits).0)

pub roomy-takes : (cs : List Call) (r : Receiver) → Given r → Roomy cs → TakesAll (start r) cs
unfolding TakesAll Roomy
roomy-takes [] r given roomy = tt
roomy-takes (c ∷ cs) r given roomy =
    let o = call_on (start r) c in
    let all = roomy-consumes r c given roomy.0 roomy.1.0 in
    let none : drop (2 * o.consumed) c.input ≡ [] = drop_of_length-le c.input {i = 2 * o.consumed} (omega (arith, all)) in
    let waiting : start o.receiver ≡ waits_after (start r) c = λ j. record { receiver = o.receiver; rest = sym none j } in
    (all, subst (λ (w : Waiting). TakesAll w cs) waiting (roomy-takes cs o.receiver (called-given r c.input c.strobes c.output given) roomy.1.1))

-- ---- what the calls of any list keep
pub waits-given : (cs : List Call) (w : Waiting) → Given w.receiver → Given (waits w cs).receiver
unfolding waits
waits-given [] w given = given
waits-given (c ∷ cs) w given = waits-given cs (waits_after w c) (called-given w.receiver (handed w c) c.strobes c.output given)

pair-parity : (a k n : ℕ) → k ≤ a / 2 → (a - 2 * k + n) % 2 ≡ (a + n) % 2
pair-parity a k n h = omega arith

pub waits-length : (cs : List Call) (w : Waiting) → let n = length w.rest + length (recorded cs) in (length (waits w cs).rest ≤ n) × (length (waits w cs).rest % 2 ≡ n % 2)
unfolding waits recorded
waits-length [] w = (omega arith, ap (λ (n : ℕ). n % 2) (omega arith))
waits-length (c ∷ cs) w =
    let k = (call_on w c).consumed in
    let xs = handed w c in
    let n = length (recorded cs) in
    let h = waits-length cs (waits_after w c) in
    let less = length-drop (2 * k) xs in
    let all : length xs + n ≡ length w.rest + length (c.input ++ recorded cs) = omega (arith, length-append w.rest c.input, length-append c.input (recorded cs)) in
    let even = pair-parity (length xs) k n (called-sparing w.receiver xs c.strobes c.output).consumed in (
      (let g = h.0 in omega arith),
      h.1 ∙ ap (λ (a : ℕ). (a + n) % 2) less ∙ even ∙ ap (λ (a : ℕ). a % 2) all,
    )

-- ---- what is left is handed again, with a place or more
module _ (zs ys : List Float) (lent : APlace zs ys) where
  abbrev pub once : Call
  once = record { input = []; strobes = zs; output = ys }

  -- no call on whole samples is refused
  fits_whole : (xs : List Float) → length xs % 2 ≡ 0 → accepts xs zs ys ≡ true
  fits_whole xs even =
      let b = both-tests (odd_any [] zs ys) (eqb (length zs) (length ys)) lent.fits in
      let equal = eqb-true (length zs) (length ys) b.1 in
      let zs-even = (accepted-whole [] zs ys lent.fits).1 in
      let none = all-even xs zs ys (λ o. omega (arith, even)) (λ o. omega (arith, zs-even)) (λ o. omega (arith, equal, zs-even)) in
      λ j. not (none j) && b.1 j

  -- the samples from the next strobe's place on
  abbrev pub ahead : Waiting → ℕ
  ahead w = length w.rest / 2 + 1 - w.receiver.timing.track.clock.i

  module _ (w : Waiting) (given : Given w.receiver) (even : length w.rest % 2 ≡ 0) where
    abbrev xs : List Float
    xs = handed w once

    abbrev n : ℕ
    n = length zs / 2

    abbrev t : Ran C32
    t = ran complex w.receiver.timing (samples xs) n

    same_length : length xs ≡ length w.rest
    same_length = ap length (append-nil w.rest)

    xs-even : length xs % 2 ≡ 0
    xs-even = omega (arith, same_length, even)

    call-is : heard_on w once ≡ received w.receiver (samples xs) n
    call-is = call-received w once (fits_whole xs xs-even)

    taken : (call_on w once).consumed ≡ t.taken
    taken = ap (λ (h : Heard). h.consumed) call-is

    left-length : length (waits_after w once).rest ≡ length xs - 2 * t.taken
    left-length = length-drop (2 * (call_on w once).consumed) xs ∙ ap (λ (k : ℕ). length xs - 2 * k) taken

    pub left-even : length (waits_after w once).rest % 2 ≡ 0
    left-even = omega (arith, left-length, xs-even)

    -- all is taken, or each place has its strobe
    pub nearer : ((waits_after w once).rest ≡ []) ⊎ (ahead (waits_after w once) < ahead w)
    nearer = go (order (length t.values) n)
      where
        go : (length t.values < n) ⊎ (n ≤ length t.values) → ((waits_after w once).rest ≡ []) ⊎ (ahead (waits_after w once) < ahead w)
        go (inl few) =
            let all = ran-all complex w.receiver.timing (samples xs) n few in
            inl (drop_of_length-le xs {i = 2 * (call_on w once).consumed} (omega (arith, taken, all, length-samples xs, xs-even)))
        go (inr full) =
            let i = ap (λ (h : Heard). h.receiver.timing.track.clock.i) call-is in
            let h = ran-nearer complex w.receiver.timing (samples xs) n given.timing in
            inr (omega (arith, i, h, full, lent.place, length-samples xs, left-length, same_length))

  -- on nothing a call changes nothing
  pub idle : (f : ℕ) (r : Receiver) → Given r → waits (start r) (again f zs ys) ≡ start r
  unfolding waits samples
  idle zero r given = refl
  idle (suc f) r given =
      let same = ap (λ (h : Heard). h.receiver) (call-received (start r) once (fits_whole [] refl) ∙ received-nothing r given (length zs / 2)) in
      let none = drop-nil (2 * (call_on (start r) once).consumed) in
      ap (λ (w : Waiting). waits w (again f zs ys)) (λ j. record { receiver = same j; rest = none j }) ∙ idle f r given

  -- nothing is left of nothing
  stays-taken : (f : ℕ) (w : Waiting) → w.rest ≡ [] → (waits w (again f zs ys)).rest ≡ []
  unfolding waits
  stays-taken zero w none = none
  stays-taken (suc f) w none = stays-taken f (waits_after w once) (ap (λ (l : List Float). drop (2 * (call_on w once).consumed) (l ++ [])) none ∙ drop-nil (2 * (call_on w once).consumed))

  pub again-takes : (f : ℕ) (w : Waiting) → Given w.receiver → length w.rest % 2 ≡ 0 → ahead w ≤ f → (waits w (again (suc f) zs ys)).rest ≡ []
  unfolding waits
  again-takes zero w given even near = go (nearer w given even)
    where
      go : ((waits_after w once).rest ≡ []) ⊎ (ahead (waits_after w once) < ahead w) → (waits_after w once).rest ≡ []
      go (inl none) = none
      go (inr less) = absurd (omega arith)
  again-takes (suc f) w given even near = go (nearer w given even) (again-takes f (waits_after w once) (called-given w.receiver (handed w once) zs ys given) (left-even w given even))
    where
      go : ((waits_after w once).rest ≡ []) ⊎ (ahead (waits_after w once) < ahead w) → (ahead (waits_after w once) ≤ f → (waits (waits_after w once) (again (suc f) zs ys)).rest ≡ []) → (waits (waits_after w once) (again (suc f) zs ys)).rest ≡ []
      go (inl none) others = stays-taken (suc f) (waits_after w once) none
      go (inr less) others = others (omega arith)

-- ---- behind any list of calls
pub waits-append : (cs ds : List Call) (w : Waiting) → waits w (cs ++ ds) ≡ waits (waits w cs) ds
unfolding waits
waits-append [] ds w = refl
waits-append (c ∷ cs) ds w = waits-append cs ds (waits_after w c)

pub recorded-append : (cs ds : List Call) → recorded (cs ++ ds) ≡ recorded cs ++ recorded ds
unfolding recorded
recorded-append [] ds = refl
recorded-append (c ∷ cs) ds = ap (λ (l : List Float). c.input ++ l) (recorded-append cs ds) ∙ sym (append_assoc c.input (recorded cs) (recorded ds))

pub again-records : (n : ℕ) (zs ys : List Float) → recorded (again n zs ys) ≡ []
unfolding recorded
again-records zero zs ys = refl
again-records (suc n) zs ys = again-records n zs ys

-- the recording is the same
pub recorded-again : (cs : List Call) (n : ℕ) (zs ys : List Float) → recorded (cs ++ again n zs ys) ≡ recorded cs
recorded-again cs n zs ys = recorded-append cs (again n zs ys) ∙ ap (λ (l : List Float). recorded cs ++ l) (again-records n zs ys) ∙ append-nil (recorded cs)

-- a recording of whole samples is taken, whatever places its calls have, if what they leave is handed again as often
-- as it has samples and once more
pub again-left : (r : Receiver) (cs : List Call) (zs ys : List Float) → Given r → APlace zs ys → length (recorded cs) % 2 ≡ 0 → left r (cs ++ again (often_enough cs) zs ys) ≡ []
again-left r cs zs ys given lent even =
    let n = length (recorded cs) / 2 in
    let w = waits (start r) cs in
    let g = waits-given cs (start r) given in
    let h = waits-length cs (start r) in
    let i = g.timing.first in
    ap (λ (v : Waiting). v.rest) (waits-append cs (again (suc n) zs ys) (start r))
    ∙ again-takes zs ys lent n w g (omega (arith, h.1, even)) (let k = h.0 in omega arith)
