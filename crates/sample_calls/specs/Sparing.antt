-- A10: what holds of a sample call's counts and of the places that it leaves. Definitions only.
use Rattle.std.specs.Prelude.{◌≡◌, ◌*◌, ◌/◌, ◌≤◌, ◌<◌, List, length, drop, Float}
use Rattle.sample_calls.specs.Call.{Outcome}

-- of a call on the input xs, the strobe buffer zs and the output ys
pub record Sparing (xs zs ys : List Float) (o : Outcome) : Type 0 where
  pub produced : o.produced ≤ length ys / 2
  pub consumed : o.consumed ≤ length xs / 2
  -- a place is left only where all input is consumed
  pub all : o.number ≡ 0 → o.produced < length ys / 2 → o.consumed ≡ length xs / 2
  -- the places past those produced are as found
  pub strobes-rest : drop (2 * o.produced) o.strobes ≡ drop (2 * o.produced) zs
  pub output-rest : drop (2 * o.produced) o.output ≡ drop (2 * o.produced) ys
  pub strobes-length : length o.strobes ≡ length zs
  pub output-length : length o.output ≡ length ys
