-- R16: a symbol reads none exactly if both parts are zero or a part is NaN, else the number of R11 to R13, below the
-- count of points; samples alike read the same. Assumes nothing.
use Rattle.std.specs.Prelude.{Some, None}
use mathlib.Core.Path.{◌≡◌, refl, sym, ap, ◌∙◌, subst}
use mathlib.Core.Bool.{Bool, true, false, ◌&&◌, ◌||◌, cond}
use Prim.Native.Nat.{ℕ, ◌/◌, ◌<◌}
use native.Mathlib.Omega.{arith}
use lib.Dec.{T, lit<}
use lib.Ieee.{Float, nan, lt, eq, is_nan}
use lib.Ieee.Bits.{is_true}
use Rattle.ieee.specs.Notation.{zero₀}
use Rattle.ieee.specs.Alike.{Alike}
use Rattle.ieee.proofs.Laws.Like.{like-refl}
use Rattle.ieee.proofs.Laws.Compare.{like-lt, like-eq, like-nan}
use Rattle.ieee.proofs.Laws.Nan.{only_nan}
use Rattle.ieee.proofs.Laws.Test.{yes, or_left, or_right}
use Rattle.values.specs.declared.sample.C32.{C32}
use Rattle.values.specs.Samples.{silence}
use Rattle.values.specs.Turn.{AlikeSample}
use Rattle.constellations.specs.declared.kinds.CostasConstellation.{CostasConstellation}
use Rattle.constellations.specs.declared.kinds.CostasConstellation.TheVariants.{Bpsk, Qpsk, Psk8}
use Rattle.constellations.proofs.Laws.Class.{Class, low, nil, high, none, class, is_nil, on-zero, nil-alike}
use Rattle.constellations.proofs.Laws.Octant.{octant-alike, octant-below}
use Rattle.symbol_numbers.specs.Symbol.{SymbolNumber, bpsk_of, sector_of, silent, any_nan, no_symbol, symbol_of, point_count, NoSymbol, is-silent, real-nan, imag-nan}

-- ---- samples alike read the same
sector-alike : (c : CostasConstellation) {v z : C32} → AlikeSample v z → sector_of c v ≡ sector_of c z
unfolding sector_of bpsk_of
sector-alike Bpsk p = rw (like-lt p.real (like-refl zero₀), like-eq p.real (like-refl zero₀), like-lt p.imag (like-refl zero₀))
sector-alike Qpsk p = ap (λ (k : ℕ). k / 2) (octant-alike p)
sector-alike Psk8 p = octant-alike p

none_alike : {v z : C32} → AlikeSample v z → no_symbol v ≡ no_symbol z
none_alike p = let z = like-refl zero₀ in cc (like-eq p.real z, like-eq p.imag z, like-nan p.real, like-nan p.imag)

pub symbol-alike : (c : CostasConstellation) {v z : C32} → AlikeSample v z → symbol_of c v ≡ symbol_of c z
unfolding symbol_of
symbol-alike c p = λ j. cond (none_alike p j) None (Some (sector-alike c p j))

-- ---- the test says what `NoSymbol` says
zero-alike : (x : Float) → eq x zero₀ ≡ true → Alike x zero₀
zero-alike x h = nil-alike x (is-nil (class x) (sym (on-zero x) ∙ h))
  where
    is-nil : (a : Class) → is_nil a ≡ true → a ≡ nil
    is-nil low e = absurd (yes e)
    is-nil nil e = refl
    is-nil high e = absurd (yes e)
    is-nil none e = absurd (yes e)

silent-alike : (y : C32) → silent y ≡ true → AlikeSample y silence
silent-alike y h = go (eq y.re zero₀) (eq y.im zero₀) refl refl h
  where
    go : (a b : Bool) → eq y.re zero₀ ≡ a → eq y.im zero₀ ≡ b → (a && b) ≡ true → AlikeSample y silence
    go true true p q h = record { real = zero-alike y.re p; imag = zero-alike y.im q }
    go true false p q h = absurd (yes h)
    go false b p q h = absurd (yes h)

-- a sample reads none, or it does not
pub data Reads (y : C32) : Type 0 where
  nothing : NoSymbol y → no_symbol y ≡ true → Reads y
  something : (NoSymbol y → ⊥) → no_symbol y ≡ false → Reads y

nan-told : {x : Float} → x ≡ nan → T (is_nan x)
unfolding is_nan
nan-told e = subst (λ (x : Float). T (is_nan x)) (sym e) tt

tested : {y : C32} → NoSymbol y → no_symbol y ≡ true
unfolding eq
tested (is-silent p) = none_alike p
tested {y} (real-nan p) = is_true (no_symbol y) (or_right (silent y) (any_nan y) (or_left (is_nan y.re) (is_nan y.im) (nan-told p)))
tested {y} (imag-nan p) = is_true (no_symbol y) (or_right (silent y) (any_nan y) (or_right (is_nan y.re) (is_nan y.im) (nan-told p)))

pub reads : (y : C32) → Reads y
reads y = go (silent y) (is_nan y.re) (is_nan y.im) refl refl refl
  where
    read : NoSymbol y → Reads y
    read h = nothing h (tested h)

    go : (s n m : Bool) → silent y ≡ s → is_nan y.re ≡ n → is_nan y.im ≡ m → Reads y
    go true n m p q t = read (is-silent (silent-alike y p))
    go false true m p q t = read (real-nan (sym (only_nan y.re q)))
    go false false true p q t = read (imag-nan (sym (only_nan y.im t)))
    go false false false p q t = let no : no_symbol y ≡ false = λ j. p j || (q j || t j) in something (λ h. absurd (yes (sym no ∙ tested h))) no

-- ---- R16: none exactly if
abbrev is_none : SymbolNumber → Bool
is_none None = true
is_none (Some n) = false

pub none-exactly : (c : CostasConstellation) (y : C32) → (symbol_of c y ≡ None → NoSymbol y) × (NoSymbol y → symbol_of c y ≡ None)
unfolding symbol_of
none-exactly c y = (only (reads y), (λ h. ap (λ (b : Bool). cond b None (Some (sector_of c y))) (tested h)))
  where
    only : Reads y → cond (no_symbol y) None (Some (sector_of c y)) ≡ None → NoSymbol y
    only (nothing h t) e = h
    only (something h t) e = absurd (yes (ap is_none (sym (ap (λ (b : Bool). cond b None (Some (sector_of c y))) t) ∙ e)))

-- R16: else the number
pub number-otherwise : (c : CostasConstellation) (y : C32) → (NoSymbol y → ⊥) → symbol_of c y ≡ Some (sector_of c y)
unfolding symbol_of
number-otherwise c y some = by (reads y)
  where
    by : Reads y → cond (no_symbol y) None (Some (sector_of c y)) ≡ Some (sector_of c y)
    by (nothing h t) = absurd (some h)
    by (something h t) = ap (λ (b : Bool). cond b None (Some (sector_of c y))) t

-- R11 to R13: below 2, 4 or 8
pub sector-below : (c : CostasConstellation) (y : C32) → sector_of c y < point_count c
unfolding sector_of bpsk_of
sector-below Bpsk y = go (lt y.re zero₀ || (eq y.re zero₀ && lt y.im zero₀))
  where
    go : (b : Bool) → cond b 1 0 < 2
    go true = lit< tt
    go false = lit< tt
sector-below Qpsk y = let h = octant-below y in omega arith
sector-below Psk8 y = octant-below y

pub number-below : (c : CostasConstellation) (y : C32) {n : ℕ} → symbol_of c y ≡ Some n → n < point_count c
unfolding symbol_of
number-below c y {n} e = by (no_symbol y) e
  where
    number : SymbolNumber → ℕ
    number None = 0
    number (Some n) = n

    by : (b : Bool) → cond b None (Some (sector_of c y)) ≡ Some n → n < point_count c
    by true e = absurd (yes (sym (ap is_none e)))
    by false e = subst (λ (k : ℕ). k < point_count c) (ap number e) (sector-below c y)

-- so it has one digit
pub number-below-eight : (c : CostasConstellation) (y : C32) {n : ℕ} → symbol_of c y ≡ Some n → n < 8
number-below-eight Bpsk y e = omega (arith, number-below Bpsk y e)
number-below-eight Qpsk y e = omega (arith, number-below Qpsk y e)
number-below-eight Psk8 y e = number-below Psk8 y e
