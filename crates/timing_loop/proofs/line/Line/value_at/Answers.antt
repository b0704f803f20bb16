-- `Line::value_at` meets its contract, by the value of a window. Assumes nothing.
use mathlib.Core.Path.{◌∙◌}
use Rattle.timing.proofs.Laws.Line.{value-of-window}
use Rattle.timing_loop.proofs.line.Line.value_at.Goals as goal

pub returns : goal.returns
returns g c = c.interp.ensures ∙ value-of-window g.S.Sample.ops _ c.args.i c.args.mu _ _ c.window.ensures c.narrow.ensures
