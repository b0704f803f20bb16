-- The fields of a command as the code takes them: the count of samples is two bytes of the slice. Assumes nothing.
use mathlib.Core.Path.{◌≡◌}
use mathlib.Core.List.{List}
use Prim.Native.Nat.{ℕ, ◌^◌, ◌≤◌, ◌<◌}
use native.Mathlib.Omega.{arith}
use lib.ListN.{length, take, drop, length-take, length-drop}

module _ (l : List ℕ) where
  -- two bytes are below 2^16
  pub count-below : 3 ≤ length l → {x : ℕ} → x < 256 ^ length (take 2 (drop 1 l)) → x < 65536
  count-below h {x} b = let two : length (take 2 (drop 1 l)) ≡ 2 = rw (length-take, length-drop) (omega arith) in rw two at b
