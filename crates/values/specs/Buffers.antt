-- The buffers of a call: which complex ones hold no whole samples, and what a slice holds once values are written
-- to its front. Definitions only.
use Rattle.std.specs.Prelude.{◌%◌, Bool, ◌||◌, List, ◌++◌, eqb, length, drop, Float}

-- E8: the count of f32 is odd, so that the last sample lacks a part
abbrev pub odd : List Float → Bool
odd xs = eqb (length xs % 2) 1

abbrev pub odd_either : List Float → List Float → Bool
odd_either xs ys = odd xs || odd ys

-- values at the front of a slice, and the rest of it as found
abbrev pub written : List Float → List Float → List Float
written vs ys = vs ++ drop (length vs) ys
