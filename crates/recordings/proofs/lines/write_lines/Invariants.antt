-- The digits before this one are laid out.
use Rattle.recordings.proofs.Laws.Lines.{Laying}
use Rattle.recordings.proofs.lines.write_lines.Given as goal

abbrev pub invariant-loop-digit : goal.invariant-loop-digit
invariant-loop-digit l = Laying l.before l.digits l.initial.text l.text l.column l.count l.digit-index
