-- `receiver_records::narrow` meets its contract: the record that a given one becomes is given. Assumes nothing.
use Rattle.std.proofs.Common.{sym, subst}
use Rattle.receiver_records.specs.Records.{NarrowedGiven}
use Rattle.receiver_records.proofs.Laws.Convert.{narrowed-given}
use Rattle.receiver_records.proofs.convert.narrow.Goals as goal

pub returns-clause-given : goal.returns-clause-given
returns-clause-given c = λ g. subst NarrowedGiven (sym c.try_into.ensures) (narrowed-given c.args.r g)
