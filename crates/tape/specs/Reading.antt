-- O2, O3: what the bytes of a command say, as far as they are read, field by field. No loop enters. Definitions only.
use Rattle.std.specs.Prelude.{ℕ, ◌+◌, ◌-◌, ◌*◌, Bool, cond, List, eqb, ltb, length, get_or, take, drop, Float}
use Rattle.little_endian.specs.Bytes.{little_endian}
use Rattle.little_endian.specs.Samples.{double_at, floats}
use Rattle.timing.specs.declared.params.Ted.{Ted}
use Rattle.constellations.specs.declared.kinds.CostasConstellation.{CostasConstellation}
use Rattle.timing.specs.declared.params.TimingValues.{TimingValues}
use Rattle.carrier.specs.declared.params.CarrierValues.{CarrierValues}
use Rattle.plain.specs.Codes.{detector_of, detector_named, constellation_of, constellation_named}

-- ---- O2: the fields, by their places
abbrev pub byte_at : List ℕ → ℕ → ℕ
byte_at l k = get_or l k 0

-- behind the selector: bandwidth, damping, offset
abbrev pub carrier_values : List ℕ → CarrierValues
carrier_values l = record { loop_bw = double_at l 2; damping = double_at l 10; max_offset = double_at l 18 }

-- behind the selector: sps, bandwidth, damping, deviation, gain
abbrev pub timing_values : Ted → List ℕ → TimingValues
timing_values ted l = record { sps = double_at l 2; ted = ted; loop_bw = double_at l 10; damping = double_at l 18; max_deviation = double_at l 26; ted_gain = double_at l 34 }

-- behind the command: how many samples
abbrev pub count_of : List ℕ → ℕ
count_of l = little_endian (take 2 (drop 1 l))

-- how many bytes a command with n samples has
abbrev pub samples_end : ℕ → ℕ
samples_end n = 3 + 8 * n

-- behind the count: the parts of n samples
abbrev pub sample_parts : List ℕ → ℕ → List Float
sample_parts l n = floats (take (8 * n) (drop 3 l))

-- ---- what they say
pub data Reading : Type 0 where
  -- the next field is not whole: it wants so many bytes more
  unfinished : ℕ → Reading
  -- a field is not defined, which is seen behind so many bytes
  undefined : ℕ → Reading
  -- a set-up
  carrier : CostasConstellation → CarrierValues → Reading
  timing : TimingValues → Reading
  -- samples are announced, but not whole: they want so many bytes more
  announced : ℕ → Reading
  -- samples, in a command of so many bytes
  samples : List Float → ℕ → Reading
  reset : Reading

-- a field ends behind so many bytes: it is missing, or the reading goes on
abbrev pub behind : (ℕ → Reading) → ℕ → List ℕ → Reading → Reading
behind missing end l x = cond (ltb (length l) end) (missing (end - length l)) x

-- E9: the selector is looked at as soon as it is read
abbrev pub selected : Bool → ℕ → List ℕ → Reading → Reading
selected named end l x = behind unfinished 2 l (cond named (behind unfinished end l x) (undefined 2))

unfoldable pub carrier_read : List ℕ → Reading
carrier_read l = let code = byte_at l 1 in selected (constellation_named code) 26 l (carrier (constellation_of code) (carrier_values l))

unfoldable pub timing_read : List ℕ → Reading
timing_read l = let code = byte_at l 1 in selected (detector_named code) 42 l (timing (timing_values (detector_of code) l))

unfoldable pub samples_behind : List ℕ → ℕ → Reading
samples_behind l n = behind announced (samples_end n) l (samples (sample_parts l n) (samples_end n))

-- E9: and so is the count
unfoldable pub samples_read : List ℕ → Reading
samples_read l = behind unfinished 3 l (cond (ltb 2048 (count_of l)) (undefined 3) (samples_behind l (count_of l)))

-- O2: by the command byte
unfoldable pub command_read : List ℕ → ℕ → Reading
command_read l b =
    cond (eqb b 1) (carrier_read l)
    (cond (eqb b 2) (timing_read l)
    (cond (eqb b 3) (samples_read l)
    (cond (eqb b 4) reset
    (undefined 1))))

unfoldable pub reading_of : List ℕ → Reading
reading_of l = behind unfinished 1 l (command_read l (byte_at l 0))
