-- The first k digits are stored.
use Rattle.std.proofs.Common.{take}
use Rattle.recordings.specs.Text as spec
use Rattle.lists.proofs.Laws.Stores.{Stored}
use Rattle.recordings.proofs.digits.write_digits.Given as goal

abbrev pub invariant-loop-k : goal.invariant-loop-k
invariant-loop-k l = Stored l.initial.text (take l.k (spec.digits l.constellation l.output l.n)) l.text
