-- P8: no sample of a block is left over; the receiver after a recording, and how many symbols read none, do not depend
-- on the blocks in which it is read, and that count is the recording's. Assumes nothing.
use mathlib.Core.Path.{◌≡◌, refl, sym, ap, ◌∙◌, subst}
use mathlib.Core.Logic.{◌⊎◌, inl, inr}
use mathlib.Core.Bool.{Bool, true, false, ◌||◌, cond}
use mathlib.Core.List.{List, [], ◌∷◌, ◌++◌, append-nil, foldl-append}
use Prim.Native.Nat.{ℕ, zero, suc, ◌+◌, ◌-◌, ◌*◌, ◌/◌, ◌%◌, ◌^◌, ◌≤◌, ◌<◌, min}
use native.Mathlib.Omega.{arith}
use borrow.Author.Tests.{eqb-true, leb-true, leb-false}
use lib.Dec.{T, eqb, leb}
use lib.ListN.{length, drop, length-drop, drop_of_length-le}
use lib.Ieee.{Float}
use Rattle.ieee.proofs.Laws.Test.{yes}
use Rattle.receiver.specs.Record.{Receiver, Given}
use Rattle.sample_calls.specs.Call.{Outcome, called}
use Rattle.sample_calls.specs.Calls.{Call, outputs_of}
use Rattle.sample_calls.proofs.Laws.Given.{called-given}
use Rattle.sample_calls.proofs.Laws.Sparing.{called-sparing}
use Rattle.blocks.specs.Receiver.{Waiting, start, waits_after, Heard, heard_on, recorded, heard, waits, left, again, APlace}
use Rattle.blocks.proofs.Laws.Recording.{cut-never-shows, heard-receiver}
use Rattle.blocks.proofs.Laws.Taken.{once, ahead, nearer, left-even, idle, again-takes, waits-given, waits-append, recorded-append, again-records}
use Rattle.recordings.specs.None.{none_after, none_with, none_in}
use Rattle.recordings.proofs.Laws.None.{none-counted}
use Rattle.receive_recording.specs.declared.block.Called.{Called}
use Rattle.receive_recording.specs.Block.{places, call_on, called_of, ended_by, final, received, Told, told_by, received_all, whole, Even}
use Rattle.receive_recording.proofs.Laws.Accepted.{call-accepted}

-- places for 256 symbols
lent : APlace places places
lent = record { fits = refl; place = omega arith }

-- ---- a call with what is left of a block
module _ (w : Waiting) (given : Given w.receiver) (even : length w.rest % 2 ≡ 0) where
  abbrev o : Outcome
  o = call_on w.receiver w.rest

  -- is what the calls of a cut make of it
  same-call : waits_after w (once places places lent) ≡ record { receiver = o.receiver; rest = drop (2 * o.consumed) w.rest }
  same-call = ap (λ (l : List Float). let q = called w.receiver l places places in record { receiver = q.receiver; rest = drop (2 * q.consumed) l }) (append-nil w.rest)

  same_none : (none : ℕ) → none_with none (heard_on w (once places places lent)).outputs ≡ (called_of none o).none
  same_none none = ap (λ (l : List Float). none_with none (outputs_of (called w.receiver l places places))) (append-nil w.rest)

  -- the last one leaves nothing
  final-takes : final w.rest o ≡ true → drop (2 * o.consumed) w.rest ≡ []
  final-takes h = drop_of_length-le w.rest {i = 2 * o.consumed} (go (eqb o.produced 0) (leb (length w.rest / 2) o.consumed) refl refl h)
    where
      go : (b c : Bool) → eqb o.produced 0 ≡ b → leb (length w.rest / 2) o.consumed ≡ c → (b || c) ≡ true → length w.rest ≤ 2 * o.consumed
      go true c e f h =
          let none = eqb-true o.produced 0 e in
          let all = (called-sparing w.receiver w.rest places places).all (call-accepted w.receiver w.rest even) (omega arith) in
          omega arith
      go false true e f h = let all = leb-true (length w.rest / 2) o.consumed f in omega arith
      go false false e f h = absurd (yes h)

  -- any other leaves something
  other-leaves : final w.rest o ≡ false → drop (2 * o.consumed) w.rest ≡ [] → ⊥
  other-leaves h none = go (eqb o.produced 0) (leb (length w.rest / 2) o.consumed) refl h
    where
      go : (b c : Bool) → leb (length w.rest / 2) o.consumed ≡ c → (b || c) ≡ false → ⊥
      go true c f h = subst T h tt
      go false true f h = subst T h tt
      go false false f h = let more = leb-false (length w.rest / 2) o.consumed f in absurd (omega (arith, ap length none, length-drop (2 * o.consumed) w.rest))

-- ---- what is told of what the calls of a cut make heard: the receiver, and how many of their symbols read none
abbrev told : ℕ → Heard → Told
told none h = record { receiver = h.receiver; none = none_with none h.outputs }

-- a call, and those after it
told-on : (none : ℕ) (w : Waiting) (c : Call) (cs : List Call) → told none (heard w (c ∷ cs)) ≡ told (none_with none (heard_on w c).outputs) (heard (waits_after w c) cs)
unfolding heard
told-on none w c cs = let h = heard (waits_after w c) cs in λ j. record { receiver = h.receiver; none = foldl-append none_after none (heard_on w c).outputs h.outputs j }

told-append : (none : ℕ) (w : Waiting) (cs ds : List Call) → told none (heard w (cs ++ ds)) ≡ told (told none (heard w cs)).none (heard (waits w cs) ds)
unfolding waits
told-append none w [] ds = unfold heard in refl
told-append none w (c ∷ cs) ds =
    let more = none_with none (heard_on w c).outputs in
    told-on none w c (cs ++ ds)
    ∙ told-append more (waits_after w c) cs ds
    ∙ ap (λ (t : Told). told t.none (heard (waits (waits_after w c) cs) ds)) (sym (told-on none w c cs))

-- where nothing is left, further calls tell nothing more
told-idle : (none : ℕ) (r : Receiver) → Given r → (m : ℕ) → told none (heard (start r) (again m places places)) ≡ record { receiver = r; none = none }
told-idle none r given m =
    let still = ap (λ (w : Waiting). w.rest) (idle places places lent m r given) in
    ap (told none) (cut-never-shows r given (again m places places) [] (unfold recorded in again-records m places places) still (unfold waits in refl)) ∙ (unfold heard in refl)

-- what the program makes of a block is what the calls of a cut tell, where there are m or more of them
block-again : (n m : ℕ) (w : Waiting) (none : ℕ) → Given w.receiver → length w.rest % 2 ≡ 0 → ahead places places lent w < n → n ≤ m → told_by (received n w.receiver none w.rest) ≡ told none (heard w (again m places places))
unfolding received
block-again zero m w none given even near fits = absurd (omega arith)
block-again (suc n) zero w none given even near fits = absurd (omega arith)
block-again (suc n) (suc m) w none given even near fits =
    let c = once places places lent in
    let v = waits_after w c in
    let more = none_with none (heard_on w c).outputs in
    go (final w.rest (call_on w.receiver w.rest)) refl (nearer places places lent w given even) (block-again n m v more (called-given w.receiver (w.rest ++ []) places places given) (left-even places places lent w given even))
    ∙ sym (told-on none w c (again m places places))
  where
    z : Called
    z = called_of none (call_on w.receiver w.rest)

    rest : List Float
    rest = drop (2 * z.counts.consumed) w.rest

    go : (b : Bool) → let v = waits_after w (once places places lent) in let more = none_with none (heard_on w (once places places lent)).outputs in
        final w.rest (call_on w.receiver w.rest) ≡ b → (v.rest ≡ []) ⊎ (ahead places places lent v < ahead places places lent w)
        → (ahead places places lent v < n → n ≤ m → told_by (received n v.receiver more v.rest) ≡ told more (heard v (again m places places)))
        → told_by (cond b (ended_by z) (received n z.receiver z.none rest)) ≡ told more (heard v (again m places places))
    go true h near others =
        let done = same-call w given even ∙ (λ j. record { receiver = z.receiver; rest = final-takes w given even h j }) in
        sym ((λ j. told (same_none w given even none j) (heard (done j) (again m places places))) ∙ told-idle z.none z.receiver (called-given w.receiver w.rest places places given) m)
    go false h (inl empty) others = absurd (other-leaves w given even h (ap (λ (v : Waiting). v.rest) (sym (same-call w given even)) ∙ empty))
    go false h (inr less) others =
        (λ j. told_by (received n (sym (same-call w given even) j).receiver (sym (same_none w given even none) j) (sym (same-call w given even) j).rest))
        ∙ others (omega arith) (omega arith)

-- ---- a block: handed once, and what is left of it again
abbrev calls_of : List Float → List Call
calls_of b = record { input = b; strobes = places; output = places } ∷ again (length b) places places

block-told : (b : List Float) (t : Told) → Given t.receiver → length b % 2 ≡ 0 → told t.none (heard (start t.receiver) (calls_of b)) ≡ told_by (received (length b) t.receiver t.none b)
block-told [] t given even = told-idle t.none t.receiver given 1 ∙ (unfold received in refl)
block-told (x ∷ l) t given even =
    let b = x ∷ l in
    let w : Waiting = record { receiver = t.receiver; rest = b } in
    let i = given.timing.first in
    told-on t.none (start t.receiver) (record { input = b; strobes = places; output = places }) (again (length b) places places)
    ∙ (λ j. told (sym (same_none w given even t.none) j) (heard (sym (same-call w given even) j) (again (length b) places places)))
    ∙ sym (told-on t.none w (once places places lent) (again (length b) places places))
    ∙ sym (block-again (length b) (suc (length b)) w t.none given even (omega arith) (omega arith))

-- all of it is taken
block-taken : (b : List Float) (r : Receiver) → Given r → length b % 2 ≡ 0 → (waits (start r) (calls_of b)).rest ≡ []
unfolding waits
block-taken [] r given even = ap (λ (w : Waiting). w.rest) (idle places places lent 1 r given)
block-taken (x ∷ l) r given even =
    let b = x ∷ l in
    let w : Waiting = record { receiver = r; rest = b } in
    let i = given.timing.first in
    ap (λ (v : Waiting). (waits v (again (length b) places places)).rest) (sym (same-call w given even)) ∙ again-takes places places lent (length b) w given even (omega arith)

block-waits : (b : List Float) (t : Told) → Given t.receiver → length b % 2 ≡ 0 → waits (start t.receiver) (calls_of b) ≡ start (received (length b) t.receiver t.none b).receiver
block-waits b t given even =
    let left = sym (heard-receiver (calls_of b) (start t.receiver)) ∙ ap (λ (u : Told). u.receiver) (block-told b t given even) in
    λ j. record { receiver = left j; rest = block-taken b t.receiver given even j }

-- ---- a recording
unfoldable all_calls : List (List Float) → List Call
all_calls [] = []
all_calls (b ∷ bs) = calls_of b ++ all_calls bs

all-recorded : (bs : List (List Float)) → recorded (all_calls bs) ≡ whole bs
unfolding all_calls recorded whole
all-recorded [] = refl
all-recorded (b ∷ bs) = recorded-append (calls_of b) (all_calls bs) ∙ (λ j. (b ++ again-records (length b) places places j) ++ all-recorded bs j) ∙ ap (λ (l : List Float). l ++ whole bs) (append-nil b)

all_told : (bs : List (List Float)) (t : Told) → Given t.receiver → Even bs → (told t.none (heard (start t.receiver) (all_calls bs)) ≡ received_all t bs) × ((waits (start t.receiver) (all_calls bs)).rest ≡ [])
unfolding all_calls received_all Even
all_told [] t given even = unfold heard waits in (refl, refl)
all_told (b ∷ bs) t given even =
    let u = told_by (received (length b) t.receiver t.none b) in
    let here = block-waits b t given even.0 in
    let after = subst Given (ap (λ (w : Waiting). w.receiver) here) (waits-given (calls_of b) (start t.receiver) given) in
    let others = all_told bs u after even.1 in (
      told-append t.none (start t.receiver) (calls_of b) (all_calls bs) ∙ (λ j. told (block-told b t given even.0 j).none (heard (here j) (all_calls bs))) ∙ others.0,
      ap (λ (w : Waiting). w.rest) (waits-append (calls_of b) (all_calls bs) (start t.receiver)) ∙ ap (λ (w : Waiting). (waits w (all_calls bs)).rest) here ∙ others.1,
    )

-- P8: the blocks do not show
pub blocks-never-show : (t : Told) → Given t.receiver → (bs ds : List (List Float)) → Even bs → Even ds → whole bs ≡ whole ds → received_all t bs ≡ received_all t ds
blocks-never-show t given bs ds even evens same =
    let b = all_told bs t given even in
    let d = all_told ds t given evens in
    sym b.0 ∙ ap (told t.none) (cut-never-shows t.receiver given (all_calls bs) (all_calls ds) (all-recorded bs ∙ same ∙ sym (all-recorded ds)) b.1 d.1) ∙ d.0

-- P8: the count of none is that of the recording's symbols, in whatever calls they are received
pub none-of-the-whole : (r : Receiver) → Given r → (bs : List (List Float)) → Even bs → (cs : List Call) → whole bs ≡ recorded cs → left r cs ≡ [] → (received_all (record { receiver = r; none = 0 }) bs).none ≡ min (none_in (heard (start r) cs).outputs) (2 ^ 64 - 1)
none-of-the-whole r given bs even cs same taken =
    let b = all_told bs (record { receiver = r; none = 0 }) given even in
    let n = none_in (heard (start r) cs).outputs in
    let from_zero : 0 + n ≡ n = omega arith in
    ap (λ (t : Told). t.none) (sym b.0 ∙ ap (told 0) (cut-never-shows r given (all_calls bs) cs (all-recorded bs ∙ same) b.1 taken))
    ∙ none-counted 0 (heard (start r) cs).outputs (omega arith)
    ∙ ap (λ (k : ℕ). min k (2 ^ 64 - 1)) from_zero
