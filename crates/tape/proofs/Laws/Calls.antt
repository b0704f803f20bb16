-- O8: the receiver's call for a command of samples, as the code makes it: its symbols lie in the buffer that it lends,
-- and its input is what the bytes hold. Assumes nothing.
use mathlib.Core.Path.{◌≡◌, ap, ◌∙◌}
use mathlib.Core.List.{List}
use Prim.Native.Nat.{ℕ, ◌+◌, ◌-◌, ◌*◌, ◌≤◌}
use native.Mathlib.Omega.{arith}
use lib.ListN.{length, take, drop, length-take, length-drop}
use lib.Seq.{take_all, length-sets}
use lib.Ieee.{Float}
use Rattle.values.specs.declared.counts.Counts.{Counts}
use Rattle.values.specs.Counts.{counts_of}
use Rattle.little_endian.specs.Samples.{floats, whole_samples, read}
use Rattle.little_endian.proofs.Laws.Floats.{length-floats, read-front}
use Rattle.receiver.specs.Record.{Receiver}
use Rattle.sample_calls.specs.declared.call.Ran.{Ran}
use Rattle.sample_calls.specs.Call.{Outcome, answered, called}
use Rattle.sample_calls.proofs.Laws.Sparing.{called-sparing}
use Rattle.tape.specs.Reading.{sample_parts}
use Rattle.tape.specs.Steps.{places, symbol_parts, sent_of}

-- ---- the symbols of a call
module _ (r : Receiver) (xs : List Float) (z : Ran) (zs ys : List Float) (e : answered z zs ys ≡ called r xs places places) {n : Counts} (f : n ≡ counts_of z.answer) where
  abbrev o : Outcome
  o = called r xs places places

  produced-is : n.produced ≡ o.produced
  produced-is = ap (λ (m : Counts). m.produced) f ∙ ap (λ (q : Outcome). q.produced) e

  pub parts-few : 2 * n.produced ≤ 4096
  parts-few = let p = produced-is in let s = (called-sparing r xs places places).produced in omega arith

  pub parts-inside : 2 * n.produced ≤ length ys
  parts-inside = let h = parts-few in let l = ap (λ (q : Outcome). length q.output) e ∙ (called-sparing r xs places places).output-length in omega arith

  pub parts-taken : 2 * n.produced ≡ length (take (2 * n.produced) ys)
  parts-taken = let h = parts-inside in rw length-take (omega arith)

  pub parts_are : take (2 * n.produced) ys ≡ symbol_parts o
  parts_are = (λ j. take (2 * produced-is j) (e j).output)

  pub sent_is : (out : ℕ) {k : ℕ} → k ≡ whole_samples out (length (take (2 * n.produced) ys)) → record { receiver = z.receiver; written = 8 * k } ≡ sent_of out o
  sent_is out {k} g = (λ j. record { receiver = (e j).receiver; written = 8 * (g ∙ ap (λ (l : List Float). whole_samples out (length l)) parts_are) j })

-- ---- the input of a call
module _ (l : List ℕ) (n : ℕ) (whole : 3 + 8 * n ≤ length l) (few : n ≤ 2048) where
  -- the samples' bytes as the code takes them: from the count's end up to the command's
  abbrev held : List ℕ
  held = take (3 + 8 * n - 3) (drop 3 l)

  held-are : held ≡ take (8 * n) (drop 3 l)
  held-are = let e : 3 + 8 * n - 3 ≡ 8 * n = omega arith in ap (λ (k : ℕ). take k (drop 3 l)) e

  held-long : length held ≡ 8 * n
  held-long = rw (length-take, length-drop) (omega arith)

  pub input-whole : {k : ℕ} → k ≡ whole_samples (length held) 4096 → k ≡ n
  input-whole e = let h = held-long in omega arith

  pub input-are : {k : ℕ} → k ≡ whole_samples (length held) (length places) → take (2 * k) (read held places) ≡ sample_parts l n
  input-are {k} e = read-front held places e ∙ take_all (2 * k) (floats held) (let h = held-long in let f = length-floats held in let i = input-whole e in omega arith) ∙ ap floats held-are

  pub input-taken : {k : ℕ} {ys : List Float} → k ≡ whole_samples (length held) (length places) → ys ≡ read held places → 2 * k ≡ length (take (2 * k) ys)
  input-taken {k} {ys} e f = let long = ap length f ∙ length-sets places 0 (take (2 * whole_samples (length held) (length places)) (floats held)) in rw length-take (omega arith)
