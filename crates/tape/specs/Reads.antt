-- O3: how the bytes of a command read, case by case: which bytes each reading stands for. Definitions only.
use Rattle.std.specs.Prelude.{◌≡◌, List, ℕ, ◌-◌, ◌≤◌, ◌<◌, length}
use Rattle.plain.specs.Codes.{detector_of, constellation_of}
use Rattle.tape.specs.Reading.{byte_at, carrier_values, timing_values, count_of, samples_end, sample_parts, Reading, unfinished, undefined, carrier, timing, announced, samples, reset}

pub data Reads (l : List ℕ) : Reading → Type 0 where
  nothing : length l ≡ 0 → Reads l (unfinished (1 - length l))
  -- the command byte
  no-command : 1 ≤ length l → (byte_at l 0 ≡ 1 → ⊥) → (byte_at l 0 ≡ 2 → ⊥) → (byte_at l 0 ≡ 3 → ⊥) → (byte_at l 0 ≡ 4 → ⊥) → Reads l (undefined 1)
  is-reset : 1 ≤ length l → byte_at l 0 ≡ 4 → Reads l reset
  -- the carrier's set-up: constellation and three values
  no-constellation : length l ≡ 1 → byte_at l 0 ≡ 1 → Reads l (unfinished (2 - length l))
  other-constellation : 2 ≤ length l → byte_at l 0 ≡ 1 → 3 ≤ byte_at l 1 → Reads l (undefined 2)
  in-carrier : 2 ≤ length l → length l < 26 → byte_at l 0 ≡ 1 → byte_at l 1 < 3 → Reads l (unfinished (26 - length l))
  is-carrier : 26 ≤ length l → byte_at l 0 ≡ 1 → byte_at l 1 < 3 → Reads l (carrier (constellation_of (byte_at l 1)) (carrier_values l))
  -- timing's set-up: detector and five values
  no-detector : length l ≡ 1 → byte_at l 0 ≡ 2 → Reads l (unfinished (2 - length l))
  other-detector : 2 ≤ length l → byte_at l 0 ≡ 2 → 2 ≤ byte_at l 1 → Reads l (undefined 2)
  in-timing : 2 ≤ length l → length l < 42 → byte_at l 0 ≡ 2 → byte_at l 1 < 2 → Reads l (unfinished (42 - length l))
  is-timing : 42 ≤ length l → byte_at l 0 ≡ 2 → byte_at l 1 < 2 → Reads l (timing (timing_values (detector_of (byte_at l 1)) l))
  -- samples, behind their count
  in_count : 1 ≤ length l → length l < 3 → byte_at l 0 ≡ 3 → Reads l (unfinished (3 - length l))
  large-count : 3 ≤ length l → byte_at l 0 ≡ 3 → 2048 < count_of l → Reads l (undefined 3)
  in-samples : 3 ≤ length l → length l < samples_end (count_of l) → byte_at l 0 ≡ 3 → count_of l ≤ 2048 → Reads l (announced (samples_end (count_of l) - length l))
  is-samples : samples_end (count_of l) ≤ length l → byte_at l 0 ≡ 3 → count_of l ≤ 2048 → Reads l (samples (sample_parts l (count_of l)) (samples_end (count_of l)))
