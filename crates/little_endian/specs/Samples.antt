-- Floats as little-endian bytes: an f64 in eight; complex samples of two f32, each in four (P1). Definitions only.
use Rattle.std.specs.Prelude.{ℕ, ◌*◌, ◌/◌, min, List, [], ◌∷◌, ◌++◌, length, take, drop, Float}
use Rattle.std.proofs.lemmas.List.Edits.{sets}
use Rattle.std.specs.Float.{binary32, binary64}
use Rattle.std.specs.Float.Ieee.{of_bits, to_bits}
use Rattle.little_endian.specs.Bytes.{little_endian, bytes_of}

-- the f32 that bytes hold; up to three bytes behind the last whole one are left out
unfoldable pub floats : List ℕ → List Float
floats (a ∷ b ∷ c ∷ d ∷ l) = of_bits binary32 (little_endian (a ∷ b ∷ c ∷ d ∷ [])) ∷ floats l
floats [] = []
floats (a ∷ []) = []
floats (a ∷ b ∷ []) = []
floats (a ∷ b ∷ c ∷ []) = []

-- the bytes that hold these f32; a NaN's are those of 7fc00000
unfoldable pub bytes : List Float → List ℕ
bytes [] = []
bytes (x ∷ l) = bytes_of 4 (to_bits binary32 x) ++ bytes l

-- the f64 in the eight bytes from a place on; those that are missing are zero
abbrev pub double_at : List ℕ → ℕ → Float
double_at l from = of_bits binary64 (little_endian (take 8 (drop from l)))

-- how many whole samples there are in as many bytes and as many f32
abbrev pub whole_samples : ℕ → ℕ → ℕ
whole_samples bs fs = min (bs / 8) (fs / 2)

-- a slice with the samples that stand in bytes at its front, and the rest of it as found
abbrev pub read : List ℕ → List Float → List Float
read bs ys = sets ys 0 (take (2 * whole_samples (length bs) (length ys)) (floats bs))

-- bytes with these samples at their front, and the rest of them as found
abbrev pub stored_bytes : List Float → List ℕ → List ℕ
stored_bytes xs bs = sets bs 0 (bytes (take (2 * whole_samples (length bs) (length xs)) xs))
