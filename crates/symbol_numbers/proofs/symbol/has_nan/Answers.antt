-- `symbol_numbers::symbol::has_nan` meets its contract: a part that differs from itself is NaN. Assumes nothing.
use mathlib.Core.Path.{sym, ◌∙◌}
use lib.Ieee.{is_nan}
use Rattle.ieee.proofs.Laws.Nan.{differs-is}
use Rattle.ieee.proofs.Laws.Test.{or-held, or-failed}
use Rattle.symbol_numbers.proofs.symbol.has_nan.Goals as goal

pub returns-then-y : goal.returns-then-y
returns-then-y c = let y = c.args.y in or-held (is_nan y.im) (sym (differs-is y.re) ∙ c.if-y.true) (differs-is y.re)

pub returns-else-y : goal.returns-else-y
returns-else-y c = let y = c.args.y in or-failed (sym (differs-is y.re) ∙ c.if-y.false) (differs-is y.im)
