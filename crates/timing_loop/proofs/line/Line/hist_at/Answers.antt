-- `Line::hist_at` meets its contract, by what `at` ensures. Assumes nothing.
use Rattle.timing.specs.Run.{hist_at}
use Rattle.timing_loop.proofs.line.Line.hist_at.Goals as goal

pub returns : goal.returns
unfolding hist_at
returns g c = λ j. record { a = c.at.ensures j; b = c.at-2.ensures j; c = c.at-3.ensures j }
