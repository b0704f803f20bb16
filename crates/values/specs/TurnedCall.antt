-- What a call of one loop lends, and when a second call is the first turned k times. Definitions only.
use Rattle.std.specs.Prelude.{◌≡◌, ℕ, Bool, true, List, length, Float}
use Rattle.values.specs.Samples.{samples}
use Rattle.values.specs.Turn.{AllTurned}

-- the input, and the output as it is found
pub record Call : Type 0 where
  pub input : List Float
  pub output : List Float

-- Q6: d is c with its input turned k times. `taken` says which calls are accepted;
-- of another call only the lengths matter
pub record TurnedCall (taken : Call → Bool) (k : ℕ) (c d : Call) : Type 0 where
  pub inputs : length d.input ≡ length c.input
  pub outputs : length d.output ≡ length c.output
  pub turned : taken c ≡ true → AllTurned k (samples c.input) (samples d.input)
