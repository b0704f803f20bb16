-- The record whose count has 64 bits as a plain record. Definitions only.
use Rattle.std.specs.Prelude.{◌<◌}
use Rattle.receiver_records.specs.Records as records
use Rattle.plain_timing.specs.Complex as timing
use Rattle.plain_carrier.specs.Carrier as carrier
use Rattle.plain_records.specs.declared.record.Receiver64.{Receiver64}

-- L1: the receiver that a record stands for
abbrev pub receiver64_of : Receiver64 → records.Receiver64
receiver64_of x = record { timing = timing.sync_of x.timing; carrier = carrier.state_of x.carrier; count = x.count }

-- L1: the record of a receiver
abbrev pub record64_of : records.Receiver64 → Receiver64
record64_of r = record { timing = timing.record_of r.timing; carrier = carrier.record_of r.carrier; count = r.count }

-- A9: which records are given: the receiver is, and the codes are those of the enums
pub record Given64 (x : Receiver64) : Type 0 where
  pub receiver : records.Given64 (receiver64_of x)
  pub detector : x.timing.params.ted < 2
  pub constellation : x.carrier.constellation < 3
