-- Two records of a receiver, whose count has 64 bits or 32: which of them are given, and how one becomes the other.
-- Definitions only.
use Rattle.std.specs.Prelude.{ℕ, ◌<◌, ◌^◌, true, cond, T, ltb, Result, Ok, Err}
use Rattle.timing.specs.Run as timing
use Rattle.carrier.specs.State as carrier
use Rattle.receiver_records.specs.declared.record.Record.{Record}
use Rattle.receiver_records.specs.declared.convert.TooLarge.{TooLarge}

-- R18 and R19: the record whose count has 64 bits, and the one whose count has 32. `Given64` and `Given32` say which
-- counts fit
abbrev pub Receiver64 : Type 0
Receiver64 = Record ℕ

abbrev pub Receiver32 : Type 0
Receiver32 = Record ℕ

-- R21: the answer of a conversion down
abbrev pub Narrowed : Type 0
Narrowed = Result Receiver32 TooLarge

-- R20: up, count and loops as they are
abbrev pub widened : Receiver32 → Receiver64
widened r = record { timing = r.timing; carrier = r.carrier; count = r.count }

-- R19: the largest count of 32 bits
abbrev pub largest32 : ℕ
largest32 = 0xffffffff

-- R21: down, count and loops as they are, unless the count is above the largest
unfoldable pub narrowed : Receiver64 → Narrowed
narrowed r = cond (ltb largest32 r.count) (Err (record {})) (Ok (record { timing = r.timing; carrier = r.carrier; count = r.count }))

-- ---- A9: which records are given: both loops are, and the count fits
pub record GivenOf (bits : ℕ) (r : Record ℕ) : Type 0 where
  pub timing : timing.Given r.timing
  pub carrier : carrier.Given r.carrier
  pub count-in : r.count < 2 ^ bits

abbrev pub Given32 : Receiver32 → Type 0
Given32 r = GivenOf 32 r

abbrev pub Given64 : Receiver64 → Type 0
Given64 r = GivenOf 64 r

abbrev pub NarrowedGiven : Narrowed → Type 0
NarrowedGiven (Ok r) = Given32 r
NarrowedGiven (Err e) = T true
