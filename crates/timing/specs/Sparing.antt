-- What is promised of a call's counts and of the places that it leaves. Definitions only.
use Rattle.std.specs.Prelude.{◌≡◌, ℕ, ◌*◌, ◌<◌, ◌≤◌, List, length, drop, Float}
use Rattle.timing.specs.Run.{Outcome}

-- A10: of a call with n samples of input, and of the output ys with its `places` places of w floats
pub record Sparing {A : Type 0} (w n places : ℕ) (ys : List Float) (r : Outcome A) : Type 0 where
  pub produced : r.produced ≤ places
  pub consumed : r.consumed ≤ n
  -- a place is left only where all input is consumed
  pub all : r.number ≡ 0 → r.produced < places → r.consumed ≡ n
  -- the places past those produced are as found
  pub rest : drop (w * r.produced) r.output ≡ drop (w * r.produced) ys
  pub same_length : length r.output ≡ length ys
