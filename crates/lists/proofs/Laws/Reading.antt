-- The entry of a list past k others. Assumes nothing.
use mathlib.Core.Path.{◌≡◌, sym, ap, ◌∙◌}
use mathlib.Core.List.{List}
use Prim.Native.Nat.{ℕ, ◌+◌}
use lib.ListN.{get_or, drop}
use lib.Seq.{get_or-drop}

-- the entry y past the first k
pub get_or-on : {A : Type 0} (l : List A) (k : ℕ) (z : A) (x y : ℕ) → x ≡ k + y → get_or l x z ≡ get_or (drop k l) y z
get_or-on l k z x y e = ap (λ (x : ℕ). get_or l x z) e ∙ sym (get_or-drop k l y z)
