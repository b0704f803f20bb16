-- `numbers::widening::widen` meets its contract: x is read back from its bits, the sign apart. Assumes nothing.
use mathlib.Core.Path.{◌≡◌, sym, ap, ◌∙◌}
use Prim.Native.Nat.{◌+◌, ◌*◌, ◌/◌, ◌^◌}
use native.Mathlib.Omega.{arith}
use lib.Dec.{T}
use lib.Ieee.{binary32, binary64, fits, div, of_bits, to_bits}
use lib.Ieee.Bits.{nan_bits_is, to_bits-lt}
use Rattle.ieee.proofs.Laws.Test.{yes}
use Rattle.ieee.specs.Alike.{with_sign}
use Rattle.ieee.proofs.Laws.Bits.{sign_bit, sign-lt, parts, size-le}
use Rattle.ieee.proofs.Laws.Nan.{not-nan, is-nan}
use Rattle.numbers.proofs.widening.widen.Goals as goal

value : (c : goal.After-widen_bits-size) → of_bits binary64 (to_bits binary32 c.args.x / 2 ^ 31 * 2 ^ 63 + c.widen_bits-size.result) ≡ c.args.x
value c =
    let x = c.args.x in
    let h : T (fits binary32 x) = yes c.well_formed.0.1 in
    let k = to_bits binary32 x / 2 ^ 31 in
    sign_bit binary64 k c.widen_bits-size.result (sign-lt binary32 x h) c.widen_bits-size.ensures.upper_bound ∙ ap (with_sign k) c.widen_bits-size.ensures.result_value ∙ parts binary32 x h

pub returns-then-x : goal.returns-then-x
unfolding div of_bits
returns-then-x c = sym (is-nan c.args.x c.if-x.true)

pub float_to_bits-bits : goal.float_to_bits-bits
float_to_bits-bits c = not-nan c.args.x c.if-x.false

pub overflow_cast-bits : goal.overflow_cast-bits
overflow_cast-bits c = let h = to_bits-lt binary32 c.args.x (yes c.well_formed.0.1) in record { fits = omega arith }

pub widen_bits-size-requires : goal.widen_bits-size-requires
widen_bits-size-requires c = size-le binary32 c.args.x (yes c.well_formed.0.1) (not-nan c.args.x c.if-x.false)

pub overflow_mul-result : goal.overflow_mul-result
overflow_mul-result c = let k = sign-lt binary32 c.args.x (yes c.well_formed.0.1) in record { fits = omega arith }

pub overflow_add-result : goal.overflow_add-result
overflow_add-result c = let k = sign-lt binary32 c.args.x (yes c.well_formed.0.1) in record { fits = omega arith }

pub float_from_bits-result : goal.float_from_bits-result
float_from_bits-result c =
    let x = c.args.x in
    rw (nan_bits_is, value c) (not-nan x c.if-x.false)

pub returns : goal.returns
returns c = value c
