-- An answer as its number and counts. Definitions only.
use Rattle.values.specs.Answer.{Answer, number, consumed, produced}
use Rattle.values.specs.declared.counts.Counts.{Counts}

abbrev pub counts_of : Answer → Counts
counts_of a = record { number = number a; consumed = consumed a; produced = produced a }
