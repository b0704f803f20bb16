-- A11 and C3: the gains are finite for every bandwidth and damping that a set-up accepts, so that the original's
-- refusal of other gains never occurs. Each formula lies between the same formulas of the bounds, which the checker
-- computes. Assumes nothing.
use Rattle.std.proofs.Common.{T, subst}
use lib.Ieee.{Float, binary64, of_bits, round, add, mul, div, le, lt}
use lib.Ieee.Scale.{finite}
use Rattle.ieee.specs.Notation.{one₀, two₀, four₀, decimal}
use Rattle.ieee.proofs.Laws.Span.{span-finite, point, add-span, mul-span, div-span}
use Rattle.numbers.specs.Narrowing.{narrowed}
use Rattle.numbers.proofs.Laws.Narrowing.{narrow-span}
use Rattle.checks.specs.Range.{in_range}
use Rattle.checks.proofs.Laws.Ranges.{in_span}
use Rattle.gains.specs.Quotients.{theta, divisor, proportional, integral}
use Rattle.carrier.specs.declared.params.Params.{Params}
use Rattle.carrier.specs.Gains.{tau, kp_of, ki_of}
use Rattle.carrier.specs.State.{params_of}
use Rattle.carrier.proofs.Laws.Setup.{Limits}

pub gains-finite : (bw damping : Float) → T (in_range (decimal binary64 1 10000) bw (decimal binary64 2 10)) → T (in_range (decimal binary64 1 10) damping (decimal binary64 4 1)) → T (finite (kp_of bw damping)) × T (finite (ki_of bw damping))
unfolding kp_of ki_of proportional integral divisor theta narrowed add mul div le lt round of_bits
gains-finite bw damping u v =
    let f = binary64 in
    let b = in_span (decimal binary64 1 10000) bw (decimal binary64 2 10) tt tt u in
    let d = in_span (decimal binary64 1 10) damping (decimal binary64 4 1) tt tt v in
    let one = point one₀ tt tt in
    let four = point four₀ tt tt in
    let four-d = mul-span f four d tt in
    let θ = div-span f b (add-span f d (div-span f one four-d tt tt) tt) tt tt in
    let θθ = mul-span f θ θ tt in
    let over = add-span f (add-span f one (mul-span f (mul-span f (point two₀ tt tt) d tt) θ tt) tt) θθ tt in
    let kp = div-span f (div-span f (mul-span f four-d θ tt) over tt tt) (point tau tt tt) tt tt in
    let ki = div-span f (div-span f (mul-span f four θθ tt) over tt tt) (point tau tt tt) tt tt in
    (span-finite (narrow-span kp tt), span-finite (narrow-span ki tt))

-- so are those of the parameters of an accepted set-up
pub accepted-gains : (p : Params) → Limits p → T (finite p.kp) × T (finite p.ki)
unfolding params_of
accepted-gains p l = subst (λ (q : Params). T (finite q.kp) × T (finite q.ki)) l.worked (gains-finite p.loop_bw p.damping l.bw-in l.damping-in)
