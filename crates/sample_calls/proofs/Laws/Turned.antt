-- Q9, for the whole receiver: turned inputs and a phase set by quarters give the same numbers, counts and readings,
-- turned strobes and turned outputs, over a list of calls of any length. Assumes nothing.
use mathlib.Core.Path.{◌≡◌, refl, sym, ap, ap₂, ◌∙◌, subst₂}
use Prim.Native.Nat.{ℕ, ◌*◌, ◌/◌, ◌%◌, ◌^◌, ◌≤◌}
use native.Mathlib.Omega.{arith}
use mathlib.Core.Bool.{Bool, true, false, not, ◌&&◌, cond}
use mathlib.Core.List.{List, [], ◌∷◌, ◌++◌, map, append-nil}
use lib.Dec.{eqb}
use lib.ListN.{length, take, drop, length-append, length-drop, drop_of_length-le}
use lib.Ieee.{Float}
use Rattle.values.specs.declared.sample.C32.{C32}
use Rattle.values.specs.declared.error.Refusal.{Refusal}
use Rattle.values.specs.declared.error.Refusal.TheVariants.{Uneven, Odd}
use Rattle.values.specs.Samples.{samples, parts}
use Rattle.lists.specs.Each.{Each, none, more}
use Rattle.values.specs.Turn.{turns_all, AllTurned}
use Rattle.values.proofs.Laws.Calls.{lists-keep}
use Rattle.values.proofs.Laws.Samples.{length-samples, length-parts, samples-parts, samples-take, samples-drop, samples-append}
use Rattle.lists.proofs.Laws.Each.{each-length}
use Rattle.values.proofs.Laws.Turn.{turns_all-turned}
use Rattle.values.specs.Buffers.{written}
use Rattle.timing.specs.declared.params.Params.{Params}
use Rattle.timing.specs.Sample.{complex}
use Rattle.timing.specs.Run.{ran, done_complex}
use Rattle.timing.specs.Run as run
use Rattle.timing.proofs.Laws.TurnedRun.{TiedSync, tied-ran}
use Rattle.timing.proofs.Laws.TurnedRun as timingRun
use Rattle.timing.proofs.Laws.Turned.{written_back, same-clock}
use Rattle.timing.proofs.Laws.Turned as timing
use Rattle.cosine.specs.Table.{cos_list}
use Rattle.constellations.specs.declared.kinds.CostasConstellation.{CostasConstellation}
use Rattle.carrier.specs.declared.params.Params as carrierParams
use Rattle.carrier.specs.Run.{symbols}
use Rattle.carrier.specs.Run as carrierRun
use Rattle.detectors.specs.Turns.{Allowed}
use Rattle.carrier.proofs.Laws.Count.{runs-count}
use Rattle.carrier.proofs.Laws.Turned.{TiedState, same-carrier}
use Rattle.carrier.proofs.Laws.Turned as carrier
use Rattle.timing.specs.declared.params.TimingValues.{TimingValues}
use Rattle.carrier.specs.declared.params.CarrierValues.{CarrierValues}
use Rattle.receiver.specs.Record.{Receiver, timing_params, carrier_params_of, fresh, phase_set}
use Rattle.sample_calls.specs.Call.{Outcome, refused_call, done, odd_any, called}
use Rattle.sample_calls.specs.Calls.{Fresh, just-set-up, just-reset, Call, call_of, left_by, TurnedCall, turned_call, outputs_of, TurnedOutcome, SameReceiver, TurnedList}
use Rattle.receiver.proofs.Laws.Setup.{opened-is}

-- ---- a fresh receiver (Q4), as data
pub fresh-is : {c : CostasConstellation} {t : TimingValues} {v : CarrierValues} {r : Receiver} → Fresh c t v r → r ≡ fresh c (timing_params t) (carrier_params_of v)
fresh-is {c} {t} {v} (just-set-up {r = r} e) = opened-is c t v r e
fresh-is (just-reset r g w) = λ i. fresh (w.constellation i) (w.timing i) (w.carrier i)

-- ---- two receivers: s is r on the recording turned k times, its carrier m quarters on; the constellation is
-- one that allows these turns
record Tied (k m : ℕ) (r s : Receiver) : Type 0 where
  allowed : Allowed r.carrier.constellation k m
  timing : TiedSync k r.timing s.timing
  carrier : TiedState m r.carrier s.carrier
  count : s.count ≡ r.count

tied-fresh : (c : CostasConstellation) (p : Params) (q : carrierParams.Params) (k m : ℕ) → m ≤ 3 → Allowed c k m → Tied k m (fresh c p q) (phase_set (fresh c p q) (m * 2 ^ 30))
tied-fresh c p q k m h a = record { allowed = a; timing = timingRun.tied-fresh k p; carrier = carrier.tied-fresh c q m h; count = refl }

same-receiver : {k m : ℕ} {r s : Receiver} → Tied k m r s → SameReceiver m r s
same-receiver h = record { count = h.count; clock = same-clock h.timing; carrier = same-carrier h.carrier }

-- ---- a call that is not refused
-- what timing makes of it, and the strobes that it gives to the carrier
abbrev timed : Receiver → Call → run.Outcome C32
timed r c = done_complex r.timing c.input c.strobes

abbrev handed_on : Receiver → Call → List Float
handed_on r c = take (2 * (timed r c).produced) (timed r c).output

abbrev done_by : Receiver → Call → Outcome
done_by r c = done r c.input c.strobes c.output

record TiedOutcome (k m : ℕ) (q r : Outcome) : Type 0 where
  answer : TurnedOutcome k m q r
  receiver : Tied k m q.receiver r.receiver

module _ (k m : ℕ) (small : m ≤ 3) where
  module _ {r s : Receiver} (c d : Call) (h : Tied k m r s) (q : AllTurned k (samples c.input) (samples d.input)) (e : length d.strobes ≡ length c.strobes) where
    tied-timed : timing.TiedOutcome k (timed r c) (timed s d)
    tied-timed = timing.tied-done k c.strobes d.strobes (rw e (tied-ran k (length c.strobes / 2) h.timing q))

    tied-carried : carrier.TiedOutcome k m (carrierRun.done r.carrier (handed_on r c)) (carrierRun.done s.carrier (handed_on s d))
    tied-carried =
        let t = timed r c in
        let u = timed s d in
        carrier.tied-done k m small (handed_on r c) (handed_on s d) h.allowed h.carrier (rw (samples-take t.produced t.output, samples-take u.produced u.output) tied-timed.answer.turned)

    tied-after : Tied k m (done_by r c).receiver (done_by s d).receiver
    unfolding done
    tied-after = record { allowed = h.allowed; timing = tied-timed.state; carrier = tied-carried.state; count = rw (h.count, tied-timed.answer.produced) }

    turned-answer : TurnedOutcome k m (done_by r c) (done_by s d)
    unfolding done
    turned-answer =
        let a = tied-timed.answer in
        record { number = refl; consumed = a.consumed; produced = a.produced; strobes = a.turned; outputs = rw (back r c, back s d) (tied-carried.answer.turned refl) }
      where
        -- what is read back from the output is what the carrier gave
        back : (r : Receiver) (c : Call) → outputs_of (done_by r c) ≡ samples (carrierRun.done r.carrier (handed_on r c)).output
        back r c =
            let t = (ran complex r.timing (samples c.input) (length c.strobes / 2)).values in
            let u = (symbols r.carrier (handed_on r c)).values in
            let e : length u ≡ length t = runs-count cos_list r.carrier.constellation r.carrier.params r.carrier.track (samples (handed_on r c)) ∙ ap length (samples-take (length t) (written (parts t) c.strobes) ∙ written_back t c.strobes) in
            ap (λ (n : ℕ). take n (samples (written (parts u) c.output))) (sym e) ∙ written_back u c.output ∙ sym (samples-parts u)

  -- ---- any call, by whether a count is odd and whether the lengths are equal
  abbrev called_by : Bool → Bool → Receiver → Call → Outcome
  called_by odd equal r c = cond odd (refused_call Odd r c.strobes c.output) (cond equal (done_by r c) (refused_call Uneven r c.strobes c.output))

  tied-call : {r s : Receiver} {c d : Call} → Tied k m r s → TurnedCall k c d → TiedOutcome k m (call_of r c) (call_of s d)
  unfolding called
  tied-call {r} {s} {c} {d} h q = subst₂ (λ (o e : Bool). TiedOutcome k m (call_of r c) (called_by o e s d)) (sym odd) (sym equal) (by (odd_any c.input c.strobes c.output) (eqb (length c.strobes) (length c.output)) q.turned)
    where
      odd : odd_any d.input d.strobes d.output ≡ odd_any c.input c.strobes c.output
      odd = rw (q.inputs, q.strobes, q.outputs)

      equal : eqb (length d.strobes) (length d.output) ≡ eqb (length c.strobes) (length c.output)
      equal = rw (q.strobes, q.outputs)

      away : (n : Refusal) → TiedOutcome k m (refused_call n r c.strobes c.output) (refused_call n s d.strobes d.output)
      away n = record { answer = record { number = refl; consumed = refl; produced = refl; strobes = none; outputs = none }; receiver = h }

      by : (o e : Bool) → ((not o && e) ≡ true → AllTurned k (samples c.input) (samples d.input)) → TiedOutcome k m (called_by o e r c) (called_by o e s d)
      by true e f = away Odd
      by false true f = record { answer = turned-answer c d h (f refl) q.strobes; receiver = tied-after c d h (f refl) q.strobes }
      by false false f = away Uneven

  -- ---- a list of calls
  tied-list : {r s : Receiver} {cs ds : List Call} → Tied k m r s → Each (TurnedCall k) cs ds → TurnedList k m r s cs ds
  tied-list h l =
      let q = lists-keep call_of left_by (λ (r s : Receiver) (c d : Call) (h : Tied k m r s) (t : TurnedCall k c d). let o = tied-call h t in (o.answer, o.receiver)) h l in
      record { answers = q.0; afterwards = same-receiver q.1 }

-- Q9: two fresh receivers of the same values, the second with its phase set to m × 2^30; k may be any number of turns
pub turned-recordings : (c : CostasConstellation) (t : TimingValues) (v : CarrierValues) {r s : Receiver} → Fresh c t v r → Fresh c t v s → (k m : ℕ) → m ≤ 3 → Allowed c k m → (cs ds : List Call) → Each (TurnedCall k) cs ds → TurnedList k m r (phase_set s (m * 2 ^ 30)) cs ds
turned-recordings c t v f g k m h a cs ds l =
    rw (fresh-is f, fresh-is g) (tied-list k m h (tied-fresh c (timing_params t) (carrier_params_of v) k m h a) l)

-- ---- inputs turned exactly, of any length
samples-turned : (k : ℕ) (xs : List Float) → samples (parts (turns_all k (samples xs)) ++ drop (2 * (length xs / 2)) xs) ≡ turns_all k (samples xs)
samples-turned k xs =
    let l = turns_all k (samples xs) in
    let even : length (parts l) % 2 ≡ 0 = omega (arith, length-parts l) in
    let past : samples (drop (2 * (length xs / 2)) xs) ≡ [] = samples-drop (length xs / 2) xs ∙ drop_of_length-le (samples xs) {i = length xs / 2} (omega (arith, length-samples xs)) in
    samples-append (parts l) (drop (2 * (length xs / 2)) xs) even ∙ ap₂ ◌++◌ (samples-parts l) past ∙ append-nil l

turned-exactly : (k : ℕ) (c : Call) → TurnedCall k c (turned_call k c)
turned-exactly k c =
    let xs = c.input in
    let l = turns_all k (samples xs) in
    let rest = drop (2 * (length xs / 2)) xs in
    let all = turns_all-turned k (samples xs) in
    record {
      inputs = omega (arith, length-append (parts l) rest, length-parts l, each-length all, length-samples xs, length-drop (2 * (length xs / 2)) xs);
      strobes = refl;
      outputs = refl;
      turned = λ e. rw (samples-turned k xs) all;
    }

pub turned-list : (k : ℕ) (cs : List Call) → Each (TurnedCall k) cs (map (turned_call k) cs)
turned-list k [] = none
turned-list k (c ∷ cs) = more (turned-exactly k c) (turned-list k cs)

pub recordings-turned-exactly : (c : CostasConstellation) (t : TimingValues) (v : CarrierValues) {r s : Receiver} → Fresh c t v r → Fresh c t v s → (k m : ℕ) → m ≤ 3 → Allowed c k m → (cs : List Call) → TurnedList k m r (phase_set s (m * 2 ^ 30)) cs (map (turned_call k) cs)
recordings-turned-exactly c t v f g k m h a cs = turned-recordings c t v f g k m h a cs (map (turned_call k) cs) (turned-list k cs)
