-- C10: the cosine table, whose entry j is the cosine of j/4096 of a turn. Definitions only.
use Rattle.std.specs.Prelude.{ℕ, List, map, get_or, Float}
use Rattle.std.specs.Float.{nan, binary32}
use Rattle.std.specs.Float.Ieee.{of_bits}
use Rattle.cosine.specs.Bits.{cos_bits}

unfoldable pub cos_list : List Float
cos_list = map (of_bits binary32) cos_bits

-- entry j, read as a lent array is: past the end there is a NaN
abbrev pub cos_at : ℕ → Float
cos_at j = get_or cos_list j nan
