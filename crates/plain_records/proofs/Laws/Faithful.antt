-- L1: the record whose count has 64 bits stands for the receiver faithfully. Assumes nothing.
use mathlib.Core.Path.{◌≡◌, sym, subst}
use Rattle.receiver_records.specs.Records as records
use Rattle.plain.specs.Faithful.{Faithful}
use Rattle.plain.proofs.Laws.Codes.{detector-below, constellation-below}
use Rattle.plain_timing.proofs.Laws.Faithful.{complex-faithful}
use Rattle.plain_carrier.proofs.Laws.Faithful.{carrier-faithful}
use Rattle.plain_records.specs.declared.record.Receiver64.{Receiver64}
use Rattle.plain_records.specs.Records.{receiver64_of, record64_of, Given64}

state-back : (r : records.Receiver64) → receiver64_of (record64_of r) ≡ r
state-back r = λ j. record { timing = complex-faithful.state-back r.timing j; carrier = carrier-faithful.state-back r.carrier j; count = r.count }

record-back : (x : Receiver64) → Given64 x → record64_of (receiver64_of x) ≡ x
record-back x g =
    λ j. record {
      timing = complex-faithful.record-back x.timing (record { state = g.receiver.timing; detector = g.detector }) j;
      carrier = carrier-faithful.record-back x.carrier (record { state = g.receiver.carrier; constellation = g.constellation }) j;
      count = x.count;
    }

pub receiver-faithful : Faithful receiver64_of record64_of records.Given64 Given64
receiver-faithful = record {
  state-back = state-back;
  record-back = record-back;
  given_out = λ r g. record { receiver = subst records.Given64 (sym (state-back r)) g; detector = detector-below r.timing.params.ted; constellation = constellation-below r.carrier.constellation };
  given-in = λ x g. g.receiver;
}
