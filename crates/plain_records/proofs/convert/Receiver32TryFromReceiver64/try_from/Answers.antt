-- The conversion down meets its contract: by whether the count is above the largest of 32 bits. Assumes nothing.
use Rattle.std.proofs.Common.{sym}
use Rattle.plain_records.proofs.Laws.Convert.{fits, too_large}
use Rattle.plain_records.proofs.convert.Receiver32TryFromReceiver64.try_from.Goals as goal

pub returns-then-x-gt-LARGEST_32 : goal.returns-then-x-gt-LARGEST_32
returns-then-x-gt-LARGEST_32 c = sym (too_large c.args.x c.if-x-gt-LARGEST_32.true)

pub returns : goal.returns
returns c = sym (fits c.args.x c.if-x-gt-LARGEST_32.false)
