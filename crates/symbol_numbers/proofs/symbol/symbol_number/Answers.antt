-- `symbol_numbers::symbol_number` meets its contract: by the test for none. Assumes nothing.
use Rattle.std.specs.Prelude.{Some, None}
use mathlib.Core.Path.{sym, ap, ◌∙◌}
use mathlib.Core.Bool.{Bool, cond}
use Rattle.symbol_numbers.specs.Symbol.{sector_of, symbol_of}
use Rattle.symbol_numbers.proofs.symbol.symbol_number.Goals as goal

pub returns-then-is_none : goal.returns-then-is_none
unfolding symbol_of
returns-then-is_none c = let a = c.args in ap (λ (b : Bool). cond b None (Some (sector_of a.constellation a.y))) (sym c.if-is_none.true ∙ c.is_none.ensures)

pub returns : goal.returns
unfolding symbol_of
returns c =
    let a = c.args in
    ap Some c.sector.ensures ∙ ap (λ (b : Bool). cond b None (Some (sector_of a.constellation a.y))) (sym c.if-is_none.false ∙ c.is_none.ensures)
