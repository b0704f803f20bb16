-- C4: a set-up of the carrier is refused exactly if a row is not passed, with the first such row's reason; and what
-- an accepted one says of its parameters: each value lies in its range, and the limit is finite and not below 0.
-- Assumes nothing.
use Rattle.std.specs.Prelude.{Ok, Err}
use Rattle.std.proofs.Common.{◌≡◌, true, T, refl, ap, ◌∙◌, subst}
use lib.Ieee.{Float, binary32, binary64, round, le}
use lib.Ieee.Scale.{finite}
use Rattle.ieee.specs.Notation.{zero₀, decimal}
use Rattle.ieee.proofs.Laws.Span.{span-above, span-finite}
use Rattle.numbers.specs.Denormal.{flushed}
use Rattle.numbers.specs.Narrowing.{narrowed}
use Rattle.numbers.proofs.Laws.Denormal.{flush-finite, flush-within}
use Rattle.numbers.proofs.Laws.Narrowing.{narrow-span}
use Rattle.checks.specs.Range.{in_range}
use Rattle.checks.specs.Table.{Passed, Exactly}
use Rattle.checks.proofs.Laws.Rows.{first-passed, first-none}
use Rattle.checks.proofs.Laws.Exactly.{exactly, accepted-is}
use Rattle.checks.proofs.Laws.Ranges.{in_span}
use Rattle.constellations.specs.declared.kinds.CostasConstellation.{CostasConstellation}
use Rattle.carrier.specs.declared.params.Params.{Params}
use Rattle.carrier.specs.declared.state.CostasState.{CostasState}
use Rattle.carrier.specs.State.{SetUp, params_of, fresh, rows, opened, set_up_number, Accepted}

-- ---- which set-up is refused, by its number
pub refused-exactly : (c : CostasConstellation) (bw damping offset : Float) → Exactly (set_up_number (opened c bw damping offset)) (rows bw damping offset)
unfolding opened
refused-exactly c bw damping offset = exactly set_up_number Err (λ n. refl) _ refl (rows bw damping offset)

-- ---- which is accepted
pub all-passed : (c : CostasConstellation) (bw damping offset : Float) → in_range (decimal binary64 1 10000) bw (decimal binary64 2 10) ≡ true → in_range (decimal binary64 1 10) damping (decimal binary64 4 1) ≡ true → in_range zero₀ offset (decimal binary64 25 100) ≡ true
    → opened c bw damping offset ≡ Ok (fresh c (params_of bw damping offset))
unfolding opened
all-passed c bw damping offset u v w = first-passed Err _ _ _ u ∙ first-passed Err _ _ _ v ∙ first-passed Err _ _ _ w ∙ first-none Err _

-- the parameters that a set-up with the values of p works out
abbrev worked_out : Params → Params
worked_out p = params_of p.loop_bw p.damping p.max_offset

every-row : (c : CostasConstellation) (p : Params) → Accepted c p → Passed (rows p.loop_bw p.damping p.max_offset) × (◌≡◌ {A = SetUp} (Ok (fresh c (worked_out p))) (Ok (fresh c p)))
unfolding opened
every-row c p e = accepted-is set_up_number Err (λ n. refl) (Ok (fresh c (worked_out p))) refl (rows p.loop_bw p.damping p.max_offset) (Ok (fresh c p)) refl e

-- ---- what that says of the parameters
pub record Limits (p : Params) : Type 0 where
  pub bw-in : T (in_range (decimal binary64 1 10000) p.loop_bw (decimal binary64 2 10))
  pub damping-in : T (in_range (decimal binary64 1 10) p.damping (decimal binary64 4 1))
  pub max-finite : T (finite p.max)
  pub max-low : T (le zero₀ p.max)
  pub worked : params_of p.loop_bw p.damping p.max_offset ≡ p

-- the limit of an offset in range
limit-low : (offset : Float) → T (in_range zero₀ offset (decimal binary64 25 100)) → T (finite (flushed binary32 (narrowed offset))) × T (le zero₀ (flushed binary32 (narrowed offset)))
unfolding le round narrowed
limit-low x h =
    let n = narrow-span (in_span zero₀ x (decimal binary64 25 100) tt tt h) tt in
    (flush-finite binary32 (narrowed x) (span-finite n), (flush-within binary32 zero₀ (narrowed x) (narrowed (decimal binary64 25 100)) tt tt (span-above n) n.high).0)

pub limits : (c : CostasConstellation) (p : Params) → Accepted c p → Limits p
unfolding params_of
limits c p e =
    let a = every-row c p e in
    let r = a.0 in
    let one = a.1 in
    let same : fresh c (worked_out p) ≡ fresh c p = cc in
    let w = ap (λ (s : CostasState). s.params) same in
    let l = limit-low p.max_offset r.1.1.0 in
    record {
      bw-in = r.0;
      damping-in = r.1.0;
      max-finite = subst (λ (q : Params). T (finite q.max)) w l.0;
      max-low = subst (λ (q : Params). T (le zero₀ q.max)) w l.1;
      worked = w;
    }
