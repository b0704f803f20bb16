-- R11 to R13 and R16: the number of a symbol, or none. Definitions only.
use Rattle.std.specs.Prelude.{◌≡◌, ℕ, ◌/◌, Bool, ◌&&◌, ◌||◌, cond, Option, Some, None}
use Rattle.std.specs.Float.{nan}
use Rattle.std.specs.Float.Ieee.{lt, eq, is_nan}
use Rattle.ieee.specs.Notation.{zero₀}
use Rattle.values.specs.declared.sample.C32.{C32}
use Rattle.values.specs.Samples.{silence}
use Rattle.values.specs.Turn.{AlikeSample}
use Rattle.constellations.specs.declared.kinds.CostasConstellation.{CostasConstellation}
use Rattle.constellations.specs.declared.kinds.CostasConstellation.TheVariants.{Bpsk, Qpsk, Psk8}
use Rattle.constellations.specs.Octant.{octant_of}

-- R16: what a sample is read as: its number, or none
abbrev pub SymbolNumber : Type 0
SymbolNumber = Option ℕ

-- R11: 1 in the left half plane and on the lower half of the imaginary axis
unfoldable pub bpsk_of : C32 → ℕ
bpsk_of y = cond (lt y.re zero₀ || (eq y.re zero₀ && lt y.im zero₀)) 1 0

-- R11, R13 and R12: by half plane, quadrant or octant
unfoldable pub sector_of : CostasConstellation → C32 → ℕ
sector_of Bpsk y = bpsk_of y
sector_of Qpsk y = octant_of y / 2
sector_of Psk8 y = octant_of y

-- both parts are zero, of either sign; a part is NaN
abbrev pub silent : C32 → Bool
silent y = eq y.re zero₀ && eq y.im zero₀

abbrev pub any_nan : C32 → Bool
any_nan y = is_nan y.re || is_nan y.im

abbrev pub no_symbol : C32 → Bool
no_symbol y = silent y || any_nan y

-- R16: none, or the number of R11 to R13
unfoldable pub symbol_of : CostasConstellation → C32 → SymbolNumber
symbol_of c y = cond (no_symbol y) None (Some (sector_of c y))

-- as many numbers as the constellation has points
abbrev pub point_count : CostasConstellation → ℕ
point_count Bpsk = 2
point_count Qpsk = 4
point_count Psk8 = 8

-- R16: the samples that read none, said without a test
pub data NoSymbol (y : C32) : Type 0 where
  is-silent : AlikeSample y silence → NoSymbol y
  real-nan : y.re ≡ nan → NoSymbol y
  imag-nan : y.im ≡ nan → NoSymbol y
