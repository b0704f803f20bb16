-- An accepted sample call as the code makes it: timing's run, and then the carrier's over its strobes, give what the
-- definition says (R1). Assumes nothing.
use Rattle.std.specs.Prelude.{Ok}
use mathlib.Core.Path.{◌≡◌, ap, ◌∙◌}
use mathlib.Core.List.{List}
use Prim.Native.Nat.{ℕ, ◌*◌, ◌≤◌}
use native.Mathlib.Omega.{arith}
use lib.ListN.{length, take, length-take}
use lib.Ieee.{Float}
use Rattle.values.specs.declared.sample.C32.{C32}
use Rattle.values.specs.Buffers.{written}
use Rattle.values.specs.Counter.{count_after}
use Rattle.timing.specs.Run.{done_complex}
use Rattle.timing.specs.Run as run
use Rattle.timing.proofs.Laws.Run.{done_complex-sparing}
use Rattle.complex_sync.specs.Views.{Recovered}
use Rattle.complex_sync.specs.Views.{recovered}
use Rattle.carrier.specs.declared.state.CostasState.{CostasState}
use Rattle.carrier.specs.Run as carrier
use Rattle.carrier.proofs.Laws.Carried.{carried-all}
use Rattle.receiver.specs.Record.{Receiver}
use Rattle.sample_calls.specs.Call.{Outcome, outcome_of, done}

-- what an outcome of timing's makes of a call on r
abbrev after : Receiver → List Float → run.Outcome C32 → Outcome
after r ys t =
    let c = carrier.done r.carrier (take (2 * t.produced) t.output) in
    record {
      number = t.number;
      consumed = t.consumed;
      produced = t.produced;
      receiver = record { timing = t.state; carrier = c.state; count = count_after r.count t.produced };
      strobes = t.output;
      output = written c.output ys;
    }

module _ (r : Receiver) (xs zs ys : List Float) (equal : length zs ≡ length ys) (a : Recovered) (ws : List Float) (e : recovered a ws ≡ done_complex r.timing xs zs) where
  -- the strobe buffer keeps its length, and so has the output's
  pub same_length : length ws ≡ length ys
  same_length = ap (λ (o : run.Outcome C32). length o.output) e ∙ (done_complex-sparing r.timing xs zs).same_length ∙ equal

  -- the strobes produced lie in both
  pub fits-output : 2 * a.progress.produced ≤ length ys
  fits-output =
      let p = done_complex-sparing r.timing xs zs in
      let n = ap (λ (o : run.Outcome C32). o.produced) e in
      omega (arith, p.produced)

  pub call-done : (c : CostasState) (vs : List Float) {count : ℕ} → record { number = 0; state = c; output = vs } ≡ carrier.carried r.carrier (take (2 * a.progress.produced) ws) ys → count ≡ count_after r.count a.progress.produced
      → outcome_of (Ok a.progress) (record { timing = a.state; carrier = c; count = count }) ws vs ≡ done r xs zs ys
  unfolding done
  call-done c vs {count} f g =
      let w = take (2 * a.progress.produced) ws in
      let long : length w ≤ length ys = (let l = fits-output in let m = same_length in rw length-take (omega arith)) in
      let d = f ∙ carried-all r.carrier w ys (omega arith) in
      (λ j. outcome_of (Ok a.progress) (record { timing = a.state; carrier = (d j).state; count = g j }) ws (d j).output) ∙ ap (after r ys) e
