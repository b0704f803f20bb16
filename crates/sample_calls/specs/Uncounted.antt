-- R24: receivers and outcomes, whatever their symbol count. Definitions only.
use Rattle.std.specs.Prelude.{◌≡◌, List, map}
use Rattle.receiver.specs.Record.{Receiver}
use Rattle.sample_calls.specs.Call.{Outcome}
use Rattle.sample_calls.specs.Calls.{Call, outcomes, after}

-- with no symbol counted
abbrev pub uncounted : Receiver → Receiver
uncounted r = record { timing = r.timing; carrier = r.carrier; count = 0 }

abbrev pub uncounted_outcome : Outcome → Outcome
uncounted_outcome o = record { number = o.number; consumed = o.consumed; produced = o.produced; receiver = uncounted o.receiver; strobes = o.strobes; output = o.output }

-- a list of calls from r and one from s differ in nothing but the counts
pub record SameButCount (r s : Receiver) (cs : List Call) : Type 0 where
  pub outcomes : map uncounted_outcome (outcomes r cs) ≡ map uncounted_outcome (outcomes s cs)
  pub afterwards : uncounted (after r cs) ≡ uncounted (after s cs)
