-- E1 to E6 and E9 to E11: which command of a tape is refused, and with what number: every condition, in words of the
-- tape's bytes and of the loops that are set up. Definitions only.
use Rattle.std.specs.Prelude.{◌≡◌, List, ℕ, ◌+◌, ◌≤◌, length, drop, Float}
use Rattle.checks.specs.Table.{First}
use Rattle.constellations.specs.declared.kinds.CostasConstellation.{CostasConstellation}
use Rattle.timing.specs.declared.params.TimingValues.{TimingValues}
use Rattle.carrier.specs.declared.params.CarrierValues.{CarrierValues}
use Rattle.receiver.specs.Record.{Receiver, timing_rows, carrier_rows}
use Rattle.tape.specs.declared.desk.Desk.{Desk}
use Rattle.tape.specs.declared.desk.Desk.TheVariants.{Both}
use Rattle.tape.specs.Reading.{unfinished, undefined, carrier, timing, announced, samples, reset}
use Rattle.tape.specs.Reads.{Reads}
use Rattle.tape.specs.Steps.{done, stepped}

-- a set-up is missing
abbrev pub Missing : Desk → Type 0
Missing d = (r : Receiver) → d ≡ Both r → ⊥

-- the command at the front of l is refused with the number n, or cut off there
pub data Stops (d : Desk) (l : List ℕ) : ℕ → Type 0 where
  -- E9: a command byte, a selector or a count that is not defined
  not-defined : {read : ℕ} → Reads l (undefined read) → Stops d l 9
  -- E10: the tape ends inside a command of which no field read so far gives 9, nor 11
  cut : {k : ℕ} → 1 ≤ length l → Reads l (unfinished k) → Stops d l 10
  cut-in-samples : {k : ℕ} (r : Receiver) → d ≡ Both r → Reads l (announced k) → Stops d l 10
  -- E11: samples, whole or not, or a reset before both set-ups
  samples-announced-early : {k : ℕ} → Missing d → Reads l (announced k) → Stops d l 11
  samples-early : {xs : List Float} {end : ℕ} → Missing d → Reads l (samples xs end) → Stops d l 11
  reset-early : Missing d → Reads l reset → Stops d l 11
  -- E1 to E6: a set-up that the receiver's checks for its loop refuse
  carrier-refused : {k : CostasConstellation} {v : CarrierValues} {n : ℕ} → Reads l (carrier k v) → First n (carrier_rows v) → Stops d l n
  timing-refused : {v : TimingValues} {n : ℕ} → Reads l (timing v) → First n (timing_rows v) → Stops d l n

-- the first command of a tape that is refused, or cut off, is so with the number n
pub data StopsWith (n : ℕ) : Desk → List ℕ → Type 0 where
  here : {d : Desk} {l : List ℕ} → Stops d l n → StopsWith n d l
  later : {d e : Desk} {l : List ℕ} {used : ℕ} {xs : List Float} → stepped d l ≡ done e used xs → StopsWith n e (drop used l) → StopsWith n d l

-- every command is carried out, and the tape ends behind one
pub data Runs : Desk → List ℕ → Type 0 where
  over : {d : Desk} {l : List ℕ} → length l ≡ 0 → Runs d l
  on : {d e : Desk} {l : List ℕ} {used : ℕ} {xs : List Float} → stepped d l ≡ done e used xs → Runs e (drop used l) → Runs d l

-- ---- how many bytes are read then
-- of the command: up to the field that is refused, which is the last one for a set-up; all that are there where it is
-- cut off
abbrev pub place_of : {d : Desk} {l : List ℕ} {n : ℕ} → Stops d l n → ℕ
place_of (not-defined {read} h) = read
place_of {l = l} (cut one h) = length l
place_of {l = l} (cut-in-samples r e h) = length l
place_of (samples-announced-early m h) = 3
place_of (samples-early m h) = 3
place_of (reset-early m h) = 1
place_of (carrier-refused h f) = 26
place_of (timing-refused h f) = 42

-- of the tape: those of the commands before it too
abbrev pub place_in : {n : ℕ} {d : Desk} {l : List ℕ} → StopsWith n d l → ℕ
place_in (here s) = place_of s
place_in (later {used = used} e s) = used + place_in s
