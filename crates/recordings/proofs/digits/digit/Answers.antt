-- `recordings::digits::digit` meets its contract: a symbol's number is below 8, and none is the minus sign.
-- Assumes nothing.
use Rattle.std.proofs.Common.{sym, ◌∙◌, arith}
use Rattle.symbol_numbers.proofs.Laws.Symbol.{number-below-eight}
use Rattle.recordings.proofs.digits.digit.Goals as goal

pub overflow_cast-result : goal.overflow_cast-result
overflow_cast-result c =
    let a = c.args in
    omega (arith, number-below-eight a.constellation a.y (sym c.symbol_number.ensures ∙ c.in-Some.is))

pub overflow_add-result : goal.overflow_add-result
overflow_add-result c =
    let a = c.args in
    omega (arith, number-below-eight a.constellation a.y (sym c.symbol_number.ensures ∙ c.in-Some.is))
