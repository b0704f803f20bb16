-- `symbol_numbers::symbol::bpsk_number` meets its contract: each arm is what the definition picks there.
-- Assumes nothing.
use mathlib.Core.Path.{sym}
use mathlib.Core.Bool.{Bool, ◌&&◌, ◌||◌, cond}
use Prim.Native.Nat.{ℕ}
use lib.Ieee.{of_bits, lt, eq}
use Rattle.ieee.specs.Notation.{zero₀}
use Rattle.symbol_numbers.specs.Symbol.{bpsk_of}
use Rattle.symbol_numbers.proofs.symbol.bpsk_number.Goals as goal

-- by whether the real part is negative, whether it is zero, and whether the imaginary part is negative
abbrev picked : Bool → Bool → Bool → ℕ
picked left on below = cond (left || (on && below)) 1 0

pub returns-then-y : goal.returns-then-y
unfolding bpsk_of of_bits
returns-then-y c = let y = c.args.y in λ j. picked (sym c.if-y.true j) (eq y.re zero₀) (lt y.im zero₀)

pub returns-then-y-3 : goal.returns-then-y-3
unfolding bpsk_of of_bits
returns-then-y-3 c = λ j. picked (sym c.if-y.false j) (sym c.if-y-2.true j) (sym c.if-y-3.true j)

pub returns-else-y-3 : goal.returns-else-y-3
unfolding bpsk_of of_bits
returns-else-y-3 c = λ j. picked (sym c.if-y.false j) (sym c.if-y-2.true j) (sym c.if-y-3.false j)

pub returns-else-y-2 : goal.returns-else-y-2
unfolding bpsk_of of_bits
returns-else-y-2 c = let y = c.args.y in λ j. picked (sym c.if-y.false j) (sym c.if-y-2.false j) (lt y.im zero₀)
