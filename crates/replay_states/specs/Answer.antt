-- When the answer of a timing run is the one that a line says. Definitions only.
use Rattle.std.specs.Prelude.{◌^◌, ◌/◌, ◌%◌, Bool, ◌&&◌, eqb, Ok, Err}
use Rattle.values.specs.declared.progress.Progress.{Progress}
use Rattle.values.specs.Answer.{Answer}
use Rattle.values.specs.Refusal.{number_of}
use Rattle.answers.specs.declared.line.Operation.{Operation}
use Rattle.answers.specs.Line.{has}

-- consumed in the low half of the second word, produced in its high half
abbrev pub same_progress : Progress → Operation → Bool
same_progress p op = eqb p.consumed (op.y % 2 ^ 32) && (eqb p.produced (op.y / 2 ^ 32) && eqb op.answer 0)

abbrev pub same_answer : Answer → Operation → Bool
same_answer (Ok p) op = same_progress p op
same_answer (Err n) op = has op op.x 0 (number_of n)
