-- The conversion down meets its contract: by whether the count is above the largest of 32 bits. Assumes nothing.
use Rattle.std.proofs.Common.{sym}
use Rattle.receiver_records.proofs.Laws.Convert.{fits, too_large}
use Rattle.receiver_records.proofs.convert.Receiver32TryFromReceiver64.try_from.Goals as goal

pub returns-then-r-gt-LARGEST_32 : goal.returns-then-r-gt-LARGEST_32
returns-then-r-gt-LARGEST_32 c = sym (too_large c.args.r c.if-r-gt-LARGEST_32.true)

pub returns : goal.returns
returns c = sym (fits c.args.r c.if-r-gt-LARGEST_32.false)
