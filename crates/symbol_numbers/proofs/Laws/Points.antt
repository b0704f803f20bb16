-- R17: the points have their numbers in order: those of 8-PSK as the table has them, those of QPSK from (1, 1) on and
-- those of BPSK from (1, 0) on, to which the upper half of the imaginary axis belongs. Assumes nothing.
use Rattle.std.specs.Prelude.{Some}
use mathlib.Core.Path.{◌≡◌, refl, ap, ◌∙◌}
use mathlib.Core.List.{[], ◌∷◌, map}
use Prim.Native.Nat.{ℕ, ◌+◌, ◌*◌, ◌/◌, ◌%◌}
use native.Mathlib.Omega.{arith}
use lib.Ieee.{neg, lt, le, eq, is_nan, of_bits}
use Rattle.ieee.specs.Notation.{zero₀, one₀}
use Rattle.ieee.specs.Magnitude.{magnitude}
use Rattle.values.specs.declared.sample.C32.{C32}
use Rattle.values.specs.Turn.{turns}
use Rattle.constellations.specs.declared.kinds.CostasConstellation.TheVariants.{Bpsk, Qpsk, Psk8}
use Rattle.constellations.specs.Octant.{octant_of, points8}
use Rattle.symbol_numbers.specs.Symbol.{bpsk_of, sector_of, symbol_of}
use Rattle.symbol_numbers.specs.Turned.{turned_number}
use Rattle.symbol_numbers.proofs.Laws.Turned.{symbol-turned}

pub eight-in-order : map (symbol_of Psk8) points8 ≡ map Some (0 ∷ 1 ∷ 2 ∷ 3 ∷ 4 ∷ 5 ∷ 6 ∷ 7 ∷ [])
unfolding points8 symbol_of sector_of octant_of magnitude neg lt le eq is_nan of_bits
eight-in-order = refl

-- ---- the first point of QPSK and of BPSK
abbrev corner : C32
corner = record { re = one₀; im = one₀ }

abbrev right : C32
right = record { re = one₀; im = zero₀ }

abbrev up : C32
up = record { re = zero₀; im = one₀ }

corner-first : symbol_of Qpsk corner ≡ Some 0
unfolding symbol_of sector_of octant_of magnitude lt le eq is_nan
corner-first = refl

right-first : symbol_of Bpsk right ≡ Some 0
unfolding symbol_of sector_of bpsk_of lt eq is_nan
right-first = refl

up_first : symbol_of Bpsk up ≡ Some 0
unfolding symbol_of sector_of bpsk_of lt eq is_nan
up_first = refl

-- ---- and those after it
pub four-in-order : (j : ℕ) → symbol_of Qpsk (turns j corner) ≡ Some (j % 4)
four-in-order j =
    let e : (0 + j) % 4 ≡ j % 4 = omega arith in
    symbol-turned Qpsk j tt corner ∙ ap (turned_number Qpsk j) corner-first ∙ ap Some e

by-halves : (y : C32) → symbol_of Bpsk y ≡ Some 0 → (i : ℕ) → symbol_of Bpsk (turns (2 * i) y) ≡ Some (i % 2)
by-halves y first i =
    let e : (0 + 2 * i / 2) % 2 ≡ i % 2 = omega arith in
    symbol-turned Bpsk (2 * i) (omega arith) y ∙ ap (turned_number Bpsk (2 * i)) first ∙ ap Some e

pub two-in-order : (i : ℕ) → symbol_of Bpsk (turns (2 * i) right) ≡ Some (i % 2)
two-in-order = by-halves right right-first

-- between the points, on the imaginary axis: the upper half belongs to the first
pub axis-in-order : (i : ℕ) → symbol_of Bpsk (turns (2 * i) up) ≡ Some (i % 2)
axis-in-order = by-halves up up_first
