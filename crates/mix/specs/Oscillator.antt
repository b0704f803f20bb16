-- C12: the oscillator, cosine and sine of a phase by linear interpolation in a table. Definitions only.
use Rattle.std.specs.Prelude.{ℕ, ◌+◌, ◌/◌, ◌%◌, ◌^◌, List, slice_index_or, Float}
use Rattle.std.specs.Float.{nan, binary32}
use Rattle.ieee.specs.Notation.{◌⊕◌, ◌⊖◌, ◌⊗◌, decimal}
use Rattle.mix.specs.declared.oscillator.Pair.{Pair}

-- the low 20 bits of the phase p over 2^20, which an f32 holds
abbrev pub fraction : ℕ → Float
fraction p = decimal binary32 (p % 2 ^ 20) (2 ^ 20)

-- between the entries idx and idx + 1 of the table, at the fraction f of the way
abbrev pub between : List Float → ℕ → Float → Float
between table idx f =
    let a = slice_index_or table idx nan in
    let b = slice_index_or table (idx + 1) nan in
    a ⊕ (b ⊖ a) ⊗ f

-- the index a quarter turn before
abbrev pub quarter_before : ℕ → ℕ
quarter_before idx = (idx + 3072) % 4096

-- C12: cosine and sine of the phase p
abbrev pub pair_at : List Float → ℕ → Pair
pair_at table p =
    let idx = p / 2 ^ 20 in
    let f = fraction p in
    record { c = between table idx f; s = between table (quarter_before idx) f }
