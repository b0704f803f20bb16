-- `plain_records::narrow` meets its contract: the record that a given one becomes is given. Assumes nothing.
use Rattle.std.proofs.Common.{◌≡◌, sym, subst}
use Rattle.plain_records.specs.declared.convert.ReceiverNarrowed.{ReceiverNarrowed}
use Rattle.plain_records.specs.Convert.{Given32}
use Rattle.plain_records.proofs.Laws.Convert.{narrowed-given}
use Rattle.plain_records.proofs.convert.narrow.Goals as goal

pub returns-in-Ok-clause-given : goal.returns-in-Ok-clause-given
returns-in-Ok-clause-given c = λ g. subst (λ (z : ReceiverNarrowed). z.number ≡ 0 → Given32 z.receiver) (sym c.in-Ok.ensures) (narrowed-given c.args.x g)
