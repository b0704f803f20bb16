-- Q10: turned recordings, for the complex timing loop: turned inputs give the same numbers, counts and clock,
-- and turned strobes, over a list of calls of any length. Assumes nothing.
use Rattle.std.proofs.Common.{◌≡◌, ℕ, ◌/◌, ◌%◌, Bool, true, false, cond, not, ◌||◌, eqb, List, ◌++◌, length, take, drop, sym, refl, ap, ◌∙◌, subst, ap₂, arith}
use lib.Seq.{take-append_seam}
use lib.Ieee.{Float}
use Rattle.values.specs.declared.sample.C32.{C32}
use Rattle.values.specs.declared.error.Refusal.TheVariants.{Odd}
use Rattle.values.specs.Samples.{samples, parts}
use Rattle.lists.specs.Each.{Each, none}
use Rattle.values.specs.Turn.{turns_all, AllTurned}
use Rattle.lists.proofs.Laws.Each.{each-length}
use Rattle.values.proofs.Laws.Calls.{lists-keep}
use Rattle.values.proofs.Laws.Samples.{length-samples, length-parts, samples-parts, samples-append}
use Rattle.values.proofs.Laws.Turn.{turns_all-turned}
use Rattle.values.specs.Buffers.{written, odd_either}
use Rattle.values.specs.TurnedCall.{Call, TurnedCall}
use Rattle.timing.specs.declared.params.Params.{Params}
use Rattle.timing.specs.Sample.{complex}
use Rattle.timing.specs.Run.{Sync, fresh, Ran, Outcome, done, refused_call, done_complex, called_complex}
use Rattle.timing.specs.Calls.{call_of, left_by, whole, strobes, TurnedOutcome, SameClock, TurnedList}
use Rattle.timing.proofs.Laws.Alike.{alike-instant}
use Rattle.timing.proofs.Laws.TurnedRun.{TiedSync, tied-fresh, TiedRan, tied-ran}

-- ---- a call
pub record TiedOutcome (k : ℕ) (q r : Outcome C32) : Type 0 where
  pub answer : TurnedOutcome k q r
  pub state : TiedSync k q.state r.state

-- what is read back from a slice is what was written at its front
pub written_back : (vs : List C32) (ys : List Float) → take (length vs) (samples (written (parts vs) ys)) ≡ vs
written_back vs ys =
    let rest = drop (length (parts vs)) ys in
    let even : length (parts vs) % 2 ≡ 0 = omega (arith, length-parts vs) in
    ap (take (length vs)) (samples-append (parts vs) rest even ∙ ap (λ (l : List C32). l ++ samples rest) (samples-parts vs)) ∙ take-append_seam vs (samples rest)

-- what is read back from the output is what the run gave
strobes-back : (r : Ran C32) (ys : List Float) → strobes (done parts r ys) ≡ r.values
strobes-back r ys = written_back r.values ys

pub tied-done : (k : ℕ) {q r : Ran C32} (ys zs : List Float) → TiedRan k q r → TiedOutcome k (done parts q ys) (done parts r zs)
tied-done k {q} {r} ys zs h = record {
  answer = record { number = refl; consumed = h.taken; produced = sym (each-length h.values); turned = rw (strobes-back q ys, strobes-back r zs) h.values };
  state = h.state;
}

-- a call, by whether a count is odd
abbrev called_by : Bool → Sync C32 → Call → Outcome C32
called_by odd s c = cond odd (refused_call Odd s c.output) (done_complex s c.input c.output)

tied-call : (k : ℕ) {s t : Sync C32} {c d : Call} → TiedSync k s t → TurnedCall whole k c d → TiedOutcome k (called_complex s c.input c.output) (called_complex t d.input d.output)
unfolding called_complex
tied-call k {s} {t} {c} {d} h r = subst (λ (b : Bool). TiedOutcome k (called_by (odd_either c.input c.output) s c) (called_by b t d)) (sym odd) (by (odd_either c.input c.output) r.turned)
  where
    odd : odd_either d.input d.output ≡ odd_either c.input c.output
    odd = ap₂ (λ (m n : ℕ). eqb (m % 2) 1 || eqb (n % 2) 1) r.inputs r.outputs

    by : (b : Bool) → (not b ≡ true → AllTurned k (samples c.input) (samples d.input)) → TiedOutcome k (called_by b s c) (called_by b t d)
    by true f = record { answer = record { number = refl; consumed = refl; produced = refl; turned = none }; state = h }
    by false f = tied-done k c.output d.output (rw r.outputs (tied-ran k (length c.output / 2) h (f refl)))

-- ---- a list of calls
pub same-clock : {k : ℕ} {s t : Sync C32} → TiedSync k s t → SameClock s t
same-clock h = record { instant = alike-instant h.track.clock; pace = h.track.clock.spacing }

-- Q10: from a fresh state
pub turned-calls : (k : ℕ) (p : Params) (cs ds : List Call) → Each (TurnedCall whole k) cs ds → TurnedList k (fresh complex p) (fresh complex p) cs ds
turned-calls k p cs ds r =
    let q = lists-keep call_of left_by (λ (s t : Sync C32) (c d : Call) (h : TiedSync k s t) (q : TurnedCall whole k c d). let o = tied-call k h q in (o.answer, o.state)) (tied-fresh k p) r in
    record { answers = q.0; clocks = same-clock q.1 }

-- each call on whole samples can be turned
pub turned-exactly : (taken : Call → Bool) (k : ℕ) (c : Call) → length c.input % 2 ≡ 0 → TurnedCall taken k c (record { input = parts (turns_all k (samples c.input)); output = c.output })
turned-exactly taken k c h =
    let xs = samples c.input in
    let n = each-length (turns_all-turned k xs) in
    record {
      inputs = omega (arith, length-parts (turns_all k xs), length-samples c.input);
      outputs = refl;
      turned = λ e. rw (samples-parts (turns_all k xs)) (turns_all-turned k xs);
    }
