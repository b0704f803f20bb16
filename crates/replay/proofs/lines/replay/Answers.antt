-- What `replay::replay` answers is the tally of the lines that it plays, and the end of the input. Assumes nothing.
use mathlib.Core.Path.{subst, sym}
use Rattle.replay.specs.Tally.{Tallied, Replayed, replayed}
use Rattle.replay.proofs.lines.replay.Goals as goal

pub returns : goal.returns
returns g c =
    let lines = c.play_lines-lines in
    subst Replayed (sym c.too_long.ensures)
    (replayed (subst (λ t. Tallied lines.result t lines.new.tally) c.new-tally.ensures lines.ensures))
