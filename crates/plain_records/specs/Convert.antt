-- The record whose count has 32 bits as a plain record, and how one record becomes the other. Definitions only.
use Rattle.std.specs.Prelude.{ℕ, ◌<◌, cond, eqb, ltb, Result, Ok, Err}
use Rattle.receiver_records.specs.declared.convert.TooLarge.{TooLarge}
use Rattle.receiver_records.specs.Records.{Narrowed, largest32}
use Rattle.receiver_records.specs.Records as records
use Rattle.plain_timing.specs.Complex as timing
use Rattle.plain_carrier.specs.Carrier as carrier
use Rattle.plain_records.specs.declared.record.Receiver64.{Receiver64}
use Rattle.plain_records.specs.declared.record.Receiver32.{Receiver32}
use Rattle.plain_records.specs.declared.convert.ReceiverNarrowed.{ReceiverNarrowed}

-- L1: the receiver that a record stands for
abbrev pub receiver32_of : Receiver32 → records.Receiver32
receiver32_of x = record { timing = timing.sync_of x.timing; carrier = carrier.state_of x.carrier; count = x.count }

-- A9: which records are given
pub record Given32 (x : Receiver32) : Type 0 where
  pub receiver : records.Given32 (receiver32_of x)
  pub detector : x.timing.params.ted < 2
  pub constellation : x.carrier.constellation < 3

-- L12: up, every field as it is
abbrev pub widened : Receiver32 → Receiver64
widened x = record { timing = x.timing; carrier = x.carrier; count = x.count }

-- L13: zeros, in the place of the record of one that is too large
abbrev pub none32 : Receiver32
none32 = record { timing = timing.none; carrier = carrier.none; count = 0 }

-- L13: the number of "too large"
abbrev pub too_large_number : ℕ
too_large_number = 100

-- L13: down, every field as it is, or that number
unfoldable pub narrowed : Receiver64 → ReceiverNarrowed
narrowed x = cond (ltb largest32 x.count) (record { number = too_large_number; receiver = none32 }) (record { number = 0; receiver = record { timing = x.timing; carrier = x.carrier; count = x.count } })

-- L13: what goes out of an answer: the record and 0, or that number
abbrev pub answered : Result Receiver32 TooLarge → ReceiverNarrowed
answered (Ok x) = record { number = 0; receiver = x }
answered (Err e) = record { number = too_large_number; receiver = none32 }

-- what an answer stands for: the record where the number is 0
abbrev pub answer_of : ReceiverNarrowed → Narrowed
answer_of z = cond (eqb z.number 0) (Ok (receiver32_of z.receiver)) (Err (record {}))
