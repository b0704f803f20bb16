-- `numbers::sign` meets its contract: each arm is what the definition picks there. Assumes nothing.
use mathlib.Core.Path.{sym, ap}
use mathlib.Core.Bool.{Bool, cond}
use lib.Ieee.{Float, of_bits, neg, lt}
use Rattle.ieee.specs.Notation.{zero₀, one₀}
use Rattle.numbers.specs.Sign.{sign_of}
use Rattle.numbers.proofs.signs.sign.Goals as goal

-- by whether x is above 0, and whether below
abbrev picked : Bool → Bool → Float
picked above below = cond above one₀ (cond below (neg one₀) zero₀)

pub returns-then-x : goal.returns-then-x
unfolding sign_of of_bits
returns-then-x c = sym (ap (λ (b : Bool). picked b (lt c.args.x zero₀)) c.if-x.true)

pub returns-then-x-2 : goal.returns-then-x-2
unfolding sign_of of_bits
returns-then-x-2 c = λ j. picked (sym c.if-x.false j) (sym c.if-x-2.true j)

pub returns-else-x-2 : goal.returns-else-x-2
unfolding sign_of of_bits
returns-else-x-2 c = λ j. picked (sym c.if-x.false j) (sym c.if-x-2.false j)
