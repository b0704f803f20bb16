-- `numbers::narrowing::narrow` meets its contract: x is read back from its bits, the sign apart. Assumes nothing.
use mathlib.Core.Path.{◌≡◌, sym, ap, ◌∙◌}
use Prim.Native.Nat.{◌+◌, ◌*◌, ◌/◌, ◌^◌}
use native.Mathlib.Omega.{arith}
use lib.Dec.{T}
use lib.Ieee.{binary32, binary64, fits, div, of_bits, to_bits}
use lib.Ieee.Bits.{nan_bits_is}
use Rattle.numbers.specs.Narrowing.{narrowed}
use Rattle.ieee.proofs.Laws.Test.{yes}
use Rattle.ieee.specs.Alike.{with_sign}
use Rattle.ieee.proofs.Laws.Bits.{sign_bit, sign-lt, parts, size-le}
use Rattle.ieee.proofs.Laws.Nan.{not-nan, is-nan}
use Rattle.numbers.proofs.Laws.Narrowing.{narrow-number, narrow-with-sign}
use Rattle.numbers.proofs.narrowing.narrow.Goals as goal

pub returns-then-x : goal.returns-then-x
unfolding div of_bits narrowed
returns-then-x c = ap narrowed (sym (is-nan c.args.x c.if-x.true))

pub float_to_bits-bits : goal.float_to_bits-bits
float_to_bits-bits c = not-nan c.args.x c.if-x.false

pub narrow_bits-size-requires : goal.narrow_bits-size-requires
narrow_bits-size-requires c = size-le binary64 c.args.x (yes c.well_formed.0.1) (not-nan c.args.x c.if-x.false)

pub overflow_mul-result : goal.overflow_mul-result
overflow_mul-result c = let k = sign-lt binary64 c.args.x (yes c.well_formed.0.1) in record { fits = omega arith }

pub overflow_add-result : goal.overflow_add-result
overflow_add-result c = let k = sign-lt binary64 c.args.x (yes c.well_formed.0.1) in record { fits = omega arith }

pub overflow_cast-result : goal.overflow_cast-result
overflow_cast-result c = let k = sign-lt binary64 c.args.x (yes c.well_formed.0.1) in record { fits = omega arith }

value : (c : goal.After-narrow_bits-size) → of_bits binary32 (to_bits binary64 c.args.x / 2 ^ 63 * 2 ^ 31 + c.narrow_bits-size.result) ≡ narrowed c.args.x
value c =
    let x = c.args.x in
    let h : T (fits binary64 x) = yes c.well_formed.0.1 in
    let k = to_bits binary64 x / 2 ^ 63 in
    sign_bit binary32 k c.narrow_bits-size.result (sign-lt binary64 x h) c.narrow_bits-size.ensures.upper_bound
    ∙ ap (with_sign k) c.narrow_bits-size.ensures.result_value
    ∙ narrow-with-sign k _
    ∙ ap narrowed (parts binary64 x h)

pub float_from_bits-result : goal.float_from_bits-result
float_from_bits-result c =
    let x = c.args.x in
    rw (nan_bits_is, value c) (narrow-number x (not-nan x c.if-x.false))

pub returns : goal.returns
returns c = value c
