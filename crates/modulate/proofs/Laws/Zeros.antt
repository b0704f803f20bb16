-- The phase step depends only on the number, zeros alike. Assumes nothing.
use Rattle.std.proofs.Common.{◌≡◌, ℕ, zero, suc, ◌+◌, ◌-◌, ◌*◌, ◌/◌, ◌^◌, ◌<◌, Bool, true, false, leb, ℤ, pos, sym, refl, ap, ◌∙◌, arith}
use native.Mathlib.Nat.{div-eq_of_lt}
use lib.Arith.{lt→nleb}
use lib.Ieee.{Float, nan, inf, fin, up, down}
use lib.Ieee.Bits.{is_false}
use lib.Ieee.Fits.{down_pos}
use Rattle.ieee.specs.Alike.{Alike, plain, signed}
use Rattle.modulate.specs.Step.{phase_step}

not-far : (u d : ℕ) → 0 < d → leb (2 ^ 31 * d) (0 * u) ≡ false
not-far u d h = is_false (leb (2 ^ 31 * d) (0 * u)) (lt→nleb (2 ^ 31 * d) (0 * u) (omega arith))

-- of no more than a half, either way
half_up : (u d : ℕ) → 0 < d → (2 * (0 * u * 2 ^ 32) + d) / (2 * d) ≡ 0
half_up u d h = div-eq_of_lt (omega arith)

half_down : (u d : ℕ) → 0 < d → (2 * (0 * u * 2 ^ 32) - d + (2 * d - 1)) / (2 * d) ≡ 0
half_down u d h = div-eq_of_lt (omega arith)

step-zero : (s : Bool) (e : ℤ) → phase_step (fin s zero e) ≡ 0
unfolding phase_step
step-zero true e = rw (not-far (up e) (down e) (down_pos e), half_down (up e) (down e) (down_pos e))
step-zero false e = rw (not-far (up e) (down e) (down_pos e), half_up (up e) (down e) (down_pos e))

step-plain : (x : Float) → phase_step (plain x) ≡ phase_step x
unfolding phase_step plain
step-plain nan = refl
step-plain (inf s) = refl
step-plain (fin s zero e) = step-zero false (pos 0) ∙ sym (step-zero s e)
step-plain (fin true (suc m) e) = refl
step-plain (fin false (suc m) e) = refl

pub same_step : {x y : Float} → Alike x y → phase_step x ≡ phase_step y
unfolding signed
same_step {x} {y} p = sym (step-plain x) ∙ ap phase_step p.same ∙ step-plain y
