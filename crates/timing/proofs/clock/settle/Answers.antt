-- `timing::settle` meets its contract: by the flag, then by the test for a finite error, which a cast to f64 keeps.
-- Assumes nothing.
use Rattle.std.proofs.Common.{Bool, cond, sym, ◌∙◌, rules}
use lib.Ieee.{Float, of_bits}
use lib.Ieee.Scale.{finite}
use Rattle.ieee.specs.Notation.{zero₀}
use Rattle.ieee.proofs.Laws.Test.{yes}
use Rattle.ieee.proofs.Laws.Nan.{finite-not-nan}
use Rattle.timing.specs.Clock.{settled}
use Rattle.timing.proofs.clock.settle.Goals as goal
use Rattle.timing.proofs.clock.settle.Goals.{else-started-via-then-started+else-is_finite, else-started-via-else-started}

-- the two tests as the definition has them
abbrev picked : Float → Bool → Bool → Float
picked e started is = cond started (cond is e zero₀) zero₀

pub float_to_float-result : goal.float_to_float-result
float_to_float-result c = let n = finite-not-nan c.args.e (yes (sym c.is_finite.ensures ∙ c.if-is_finite.true)) in search rules

pub returns-then-is_finite : goal.returns-then-is_finite
unfolding settled of_bits
returns-then-is_finite c = λ j. picked c.args.e (sym c.if-started.true j) ((sym c.if-is_finite.true ∙ c.is_finite.ensures) j)

pub returns : goal.returns
unfolding settled of_bits
returns c =
    let e = c.args.e in
    elim c.else-started.branch [
      | else-started-via-then-started+else-is_finite w ↦ λ j. picked e (sym w.if-started.true j) ((sym w.if-is_finite.false ∙ w.is_finite.ensures) j)
      | else-started-via-else-started w ↦ λ j. picked e (sym w.if-started.false j) (finite e)
    ]
