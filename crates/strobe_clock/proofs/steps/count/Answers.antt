-- `strobe_clock::count` meets its contract: a whole number that the cast takes is at most 2^53,
-- so that it is the same as an `i64`. Assumes nothing.
use mathlib.Core.Path.{◌≡◌, sym, ap, ◌∙◌, subst}
use Prim.Native.Nat.{◌≤◌, ◌<◌, ◌^◌}
use native.Mathlib.Omega.{arith}
use lib.IntN.{ℤ, pos, nat_abs}
use lib.Signed.{non_neg}
use lib.Dec.{T, leb→le}
use lib.Ieee.{Float, binary64, fits, in_float, in_signed, in_unsigned, to_signed, to_unsigned}
use lib.Ieee.Back.{Float-back_unsigned, positive_back}
use mir.Syntax.{w64}
use mir.Val.{Fits, to_z, of_z}
use mir.Facts.{to_z-of_z}
use Rattle.ieee.proofs.Laws.Test.{yes}
use Rattle.strobe_clock.proofs.steps.count.Goals as goal

-- x as an `i64`
record Signed (x : Float) : Type 0 where
  asks : T (in_signed binary64 63 x)
  gives : to_z w64 (of_z w64 (to_signed 63 x)) ≡ pos (to_unsigned 64 x)
  small : to_unsigned 64 x < 2 ^ 64

signed : (x : Float) → T (fits binary64 x) → T (in_unsigned binary64 64 x) → Signed x
unfolding in_float
signed x h k =
    let b = Float-back_unsigned binary64 64 x h k in
    let n = to_unsigned 64 x in
    let l : n ≤ 2 ^ 53 = leb→le n (2 ^ 53) b.0 in
    let s = subst (λ (y : Float). T (in_signed binary64 63 y) × (to_signed 63 y ≡ pos n)) b.1 (positive_back binary64 63 n b.0 (omega arith)) in
    record { asks = s.0; gives = ap (λ (z : ℤ). to_z w64 (of_z w64 z)) s.1 ∙ to_z-of_z {w = w64} {z = pos n} (record { sfits = omega arith }); small = omega arith }

known : (c : goal.After-row_known-1) → Signed c.args.f
known c = signed c.args.f (yes c.well_formed.0.1) c.requires

pub float_to_int-result : goal.float_to_int-result
float_to_int-result c = (known c).asks

pub overflow_cast-result : goal.overflow_cast-result
overflow_cast-result c = subst (λ (z : ℤ). T (non_neg z) × Fits w64 (nat_abs z)) (sym (known c).gives) (tt, record { fits = (known c).small })

pub returns : goal.returns
returns c = ap nat_abs (known c).gives
