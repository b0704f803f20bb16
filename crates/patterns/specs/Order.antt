-- What `<` says of two floats where it is read off `partial_cmp`.
use Rattle.std.specs.Prelude.{◌≡◌, refl, Bool, true, false, cond, Some, None, Float}
use Rattle.std.specs.Float.Ieee.{lt, eq}
use Rattle.std.specs.Ordering.{is_lt, is_some_and, partial_lt, float_partial_cmp}
use Rattle.std.proofs.Common.{Less, Equal, Greater}

pub float-below : (x y : Float) → partial_lt float_partial_cmp x y ≡ lt x y
float-below x y = go (lt x y) (eq x y) (lt y x)
  where
    go : (a b c : Bool) → is_some_and is_lt (cond a (Some Less) (cond b (Some Equal) (cond c (Some Greater) None))) ≡ a
    go true b c = refl
    go false true c = refl
    go false false true = refl
    go false false false = refl
