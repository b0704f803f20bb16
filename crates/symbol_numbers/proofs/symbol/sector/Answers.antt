-- `symbol_numbers::symbol::sector` meets its contract: each arm is what the definition picks for that constellation.
-- Assumes nothing.
use mathlib.Core.Path.{sym, ap, ◌∙◌}
use Prim.Native.Nat.{ℕ, ◌/◌}
use Rattle.symbol_numbers.specs.Symbol.{sector_of}
use Rattle.symbol_numbers.proofs.symbol.sector.Goals as goal

pub returns-in-Bpsk : goal.returns-in-Bpsk
unfolding sector_of
returns-in-Bpsk c = c.bpsk_number.ensures ∙ (λ j. sector_of (sym c.in-Bpsk.is j) c.args.y)

pub returns-in-Qpsk : goal.returns-in-Qpsk
unfolding sector_of
returns-in-Qpsk c = ap (λ (k : ℕ). k / 2) c.octant.ensures ∙ (λ j. sector_of (sym c.in-Qpsk.is j) c.args.y)

pub returns-in-Psk8 : goal.returns-in-Psk8
unfolding sector_of
returns-in-Psk8 c = c.octant-in-Psk8.ensures ∙ (λ j. sector_of (sym c.in-Psk8.is j) c.args.y)
