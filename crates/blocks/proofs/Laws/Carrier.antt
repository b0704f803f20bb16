-- B2: a run of the carrier on xs and then one on ys are one run on xs followed by ys, from any state;
-- and so are two calls that are not refused. Assumes nothing.
use mathlib.Core.Path.{◌≡◌, refl, sym, ap, ◌∙◌}
use mathlib.Core.Bool.{true}
use mathlib.Core.List.{List, [], ◌∷◌, ◌++◌}
use Prim.Native.Nat.{◌%◌}
use native.Mathlib.Omega.{arith}
use lib.ListN.{length, length-append}
use lib.Ieee.{Float}
use Rattle.values.specs.declared.sample.C32.{C32}
use Rattle.values.specs.Samples.{samples, parts}
use Rattle.values.proofs.Laws.Samples.{samples-append}
use Rattle.values.proofs.Laws.Buffers.{both-even, even-both}
use Rattle.timing.specs.FormLaws.{twofold_laws}
use Rattle.timing.proofs.Laws.Shown.{slice-append}
use Rattle.cosine.specs.Table.{cos_list}
use Rattle.constellations.specs.declared.kinds.CostasConstellation.{CostasConstellation}
use Rattle.carrier.specs.declared.params.Params.{Params}
use Rattle.carrier.specs.declared.symbol.Track.{Track}
use Rattle.carrier.specs.declared.state.CostasState.{CostasState}
use Rattle.carrier.specs.Step.{Symbols, stepped, output_of, runs}
use Rattle.carrier.specs.Run.{Outcome, done, called, accepts}
use Rattle.carrier.proofs.Laws.Refused.{called-done, accepted-parts}
use Rattle.blocks.specs.Carrier.{symbols_together, call_together}

pub runs-together : (table : List Float) (c : CostasConstellation) (p : Params) (t : Track) (xs ys : List C32) → let q = runs table c p t xs in symbols_together q (runs table c p q.last ys) ≡ runs table c p t (xs ++ ys)
unfolding runs
runs-together table c p t [] ys = refl
runs-together table c p t (x ∷ xs) ys =
    let y = output_of table t x in
    ap (λ (r : Symbols). record { values = y ∷ r.values; last = r.last }) (runs-together table c p (stepped c p t y) xs ys)

-- ---- calls
done-together : (s : CostasState) (xs ys : List Float) → length xs % 2 ≡ 0 → let q = done s xs in call_together q (done q.state ys) ≡ done s (xs ++ ys)
done-together s xs ys even =
    let run = runs cos_list s.constellation s.params in
    let first = run s.track (samples xs) in
    let e = runs-together cos_list s.constellation s.params s.track (samples xs) (samples ys) ∙ ap (run s.track) (sym (samples-append xs ys even)) in
    let output = sym (slice-append twofold_laws first.values (run first.last (samples ys)).values) in
    (λ j. record { number = 0; state = record { constellation = s.constellation; params = s.params; track = (run first.last (samples ys)).last }; output = output j })
    ∙ ap (λ (r : Symbols). record { number = 0; state = record { constellation = s.constellation; params = s.params; track = r.last }; output = parts r.values }) e

pub called-together : (s : CostasState) (xs zs ys ws : List Float) → accepts xs zs ≡ true → accepts ys ws ≡ true → let q = called s xs zs in call_together q (called q.state ys ws) ≡ called s (xs ++ ys) (zs ++ ws)
called-together s xs zs ys ws h k =
    let a = accepted-parts xs zs h in
    let b = accepted-parts ys ws k in
    let even = even-both xs zs a.0 in
    let evens = even-both ys ws b.0 in
    let both : length (xs ++ ys) ≡ length (zs ++ ws) = omega (arith, length-append xs ys, length-append zs ws, a.1, b.1) in
    let whole = both-even (xs ++ ys) (zs ++ ws) (λ o. omega (arith, length-append xs ys, even.0, evens.0)) (λ o. omega (arith, length-append zs ws, even.1, evens.1)) in
    ap (λ (q : Outcome). call_together q (called q.state ys ws)) (called-done s xs zs a.0 a.1)
    ∙ ap (call_together (done s xs)) (called-done (done s xs).state ys ws b.0 b.1)
    ∙ done-together s xs ys even.0
    ∙ sym (called-done s (xs ++ ys) (zs ++ ws) whole both)
