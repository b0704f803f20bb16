-- The numbers that stand for the enums: each enum's value has its own, and a number that is one of them stands for
-- that value; a code is defined exactly if it is one of them; a symbol's code is that of none exactly if it reads none,
-- or no constellation has the code under which it is read. Assumes nothing.
use Rattle.std.specs.Prelude.{None}
use mathlib.Core.Path.{◌≡◌, refl, sym, ap, ◌∙◌, subst}
use mathlib.Core.Bool.{Bool, true, false, cond}
use mathlib.Core.Logic.{◌⊎◌, inl, inr}
use Prim.Native.Nat.{ℕ, zero, suc, ◌<◌}
use native.Mathlib.Omega.{arith}
use lib.Dec.{T, lit<, ltb→lt, lt→ltb}
use Rattle.values.specs.declared.error.Refusal.{Refusal}
use Rattle.values.specs.Refusal.{number_of}
use Rattle.values.proofs.Laws.Refusal.{refused-above}
use Rattle.values.specs.declared.sample.C32.{C32}
use Rattle.timing.specs.declared.params.Ted.{Ted}
use Rattle.timing.specs.declared.params.Ted.TheVariants.{Gardner, MuellerMuller}
use Rattle.constellations.specs.declared.kinds.CostasConstellation.{CostasConstellation}
use Rattle.constellations.specs.declared.kinds.CostasConstellation.TheVariants.{Bpsk, Qpsk, Psk8}
use Rattle.symbol_numbers.specs.Symbol.{SymbolNumber, symbol_of, NoSymbol}
use Rattle.symbol_numbers.proofs.Laws.Symbol.{Reads, nothing, something, reads, none-exactly, number-otherwise, number-below-eight}
use Rattle.plain.specs.Codes.{detector_named, detector_of, detector_code, constellation_named, constellation_of, constellation_code, symbol_under, symbol_code}

-- ---- detectors
pub detector-back : (t : Ted) → detector_of (detector_code t) ≡ t
detector-back Gardner = refl
detector-back MuellerMuller = refl

pub detector-below : (t : Ted) → detector_code t < 2
detector-below Gardner = lit< tt
detector-below MuellerMuller = lit< tt

pub detector-code-back : (n : ℕ) → n < 2 → detector_code (detector_of n) ≡ n
detector-code-back zero h = refl
detector-code-back (suc zero) h = refl
detector-code-back (suc (suc n)) h = omega arith

-- L14: a code is defined exactly if a detector has it
pub detector-named-exactly : (n : ℕ) → ((t : Ted) → detector_code t ≡ n → T (detector_named n)) × (T (detector_named n) → (t : Ted) × (detector_code t ≡ n))
detector-named-exactly n = ((λ t e. lt→ltb n 2 (subst (λ (k : ℕ). k < 2) e (detector-below t))), (λ h. (detector_of n, detector-code-back n (ltb→lt n 2 h))))

-- ---- constellations
pub constellation-back : (c : CostasConstellation) → constellation_of (constellation_code c) ≡ c
constellation-back Bpsk = refl
constellation-back Qpsk = refl
constellation-back Psk8 = refl

pub constellation-below : (c : CostasConstellation) → constellation_code c < 3
constellation-below Bpsk = lit< tt
constellation-below Qpsk = lit< tt
constellation-below Psk8 = lit< tt

pub constellation-code-back : (n : ℕ) → n < 3 → constellation_code (constellation_of n) ≡ n
constellation-code-back zero h = refl
constellation-code-back (suc zero) h = refl
constellation-code-back (suc (suc zero)) h = refl
constellation-code-back (suc (suc (suc n))) h = omega arith

-- L14: a code is defined exactly if a constellation has it
pub constellation-named-exactly : (n : ℕ) → ((c : CostasConstellation) → constellation_code c ≡ n → T (constellation_named n)) × (T (constellation_named n) → (c : CostasConstellation) × (constellation_code c ≡ n))
constellation-named-exactly n = ((λ c e. lt→ltb n 3 (subst (λ (k : ℕ). k < 3) e (constellation-below c))), (λ h. (constellation_of n, constellation-code-back n (ltb→lt n 3 h))))

-- ---- refusals
pub refused-not-done : {A : Type 0} (n : Refusal) {m : ℕ} → m ≡ number_of n → m ≡ 0 → A
refused-not-done n e z = absurd (omega (arith, refused-above n))

-- ---- L11: a symbol's code
pub no-symbol-exactly : (c : CostasConstellation) (y : C32) → (symbol_code (symbol_of c y) ≡ symbol_code None → NoSymbol y) × (NoSymbol y → symbol_code (symbol_of c y) ≡ symbol_code None)
no-symbol-exactly c y = (only (reads y), (λ h. ap symbol_code ((none-exactly c y).1 h)))
  where
    only : Reads y → symbol_code (symbol_of c y) ≡ symbol_code None → NoSymbol y
    only (nothing h t) e = h
    only (something h t) e = let is = number-otherwise c y h in absurd (omega (arith, number-below-eight c y is, sym (ap symbol_code is) ∙ e))

-- L14: none where no constellation has the code, and else where the symbol reads none
pub no-symbol-under : (n : ℕ) (y : C32) → (symbol_code (symbol_under n y) ≡ symbol_code None → (constellation_named n ≡ false) ⊎ NoSymbol y) × ((constellation_named n ≡ false) ⊎ NoSymbol y → symbol_code (symbol_under n y) ≡ symbol_code None)
no-symbol-under n y = by (constellation_named n)
  where
    under : Bool → SymbolNumber
    under named = cond named (symbol_of (constellation_of n) y) None

    by : (named : Bool) → (symbol_code (under named) ≡ symbol_code None → (named ≡ false) ⊎ NoSymbol y) × ((named ≡ false) ⊎ NoSymbol y → symbol_code (under named) ≡ symbol_code None)
    by true = let x = no-symbol-exactly (constellation_of n) y in ((λ e. inr (x.0 e)), (λ h. elim h [ inl e ↦ absurd (subst T e tt) | inr s ↦ x.1 s ]))
    by false = ((λ e. inl refl), (λ h. refl))
