-- Q12: a sample that is turned reads none if it did before; else its number grows by what the turns add. For all
-- samples. Assumes nothing.
use Rattle.std.specs.Prelude.{Some}
use mathlib.Core.Path.{◌≡◌, refl, sym, ap, ◌∙◌, subst}
use mathlib.Core.Bool.{true, false, ◌&&◌, ◌||◌, cond}
use Prim.Native.Nat.{ℕ, zero, suc, ◌+◌, ◌*◌, ◌/◌, ◌%◌}
use native.Mathlib.Omega.{arith}
use lib.IntN.{pos}
use lib.Ieee.{neg}
use Rattle.ieee.proofs.Laws.Like.{like-trans, like-neg, like-zero}
use Rattle.ieee.proofs.Laws.Test.{yes}
use Rattle.values.specs.declared.sample.C32.{C32}
use Rattle.values.specs.Turn.{turn, turns, AlikeSample}
use Rattle.values.proofs.Laws.Turn.{turns-two, turns-add, turns-turn, turns-four}
use Rattle.constellations.specs.declared.kinds.CostasConstellation.{CostasConstellation}
use Rattle.constellations.specs.declared.kinds.CostasConstellation.TheVariants.{Bpsk, Qpsk, Psk8}
use Rattle.constellations.specs.Octant.{octant_of}
use Rattle.constellations.proofs.Laws.Class.{Class, low, nil, high, none, class, flip, is_high, is_nil, class-neg, class-alike, below-zero, on-zero, nil-alike, none-nan}
use Rattle.constellations.proofs.Laws.Octant.{octant-below}
use Rattle.constellations.proofs.Laws.OctantTurn as octants
use Rattle.symbol_numbers.specs.Symbol.{bpsk_of, sector_of, symbol_of, point_count, NoSymbol, is-silent, real-nan, imag-nan}
use Rattle.symbol_numbers.specs.Turned.{numbers_on, Onto, turned_number}
use Rattle.symbol_numbers.proofs.Laws.Symbol.{Reads, nothing, something, reads, none-exactly, number-otherwise, sector-below}

-- ---- a turned sample reads none if it did before, and only then
none-turn : {y : C32} → NoSymbol y → NoSymbol (turn y)
unfolding neg
none-turn (is-silent p) = is-silent (record { real = like-trans (like-neg p.imag) (like-zero false true false (pos 0) (pos 0)); imag = p.real })
none-turn (real-nan p) = imag-nan p
none-turn (imag-nan p) = real-nan (ap neg p)

none-turns : (j : ℕ) {y : C32} → NoSymbol y → NoSymbol (turns j y)
unfolding turns
none-turns zero h = h
none-turns (suc j) h = none-turn (none-turns j h)

-- three turns more are four
none_before : (j : ℕ) {y : C32} → NoSymbol (turns j y) → NoSymbol y
unfolding turns
none_before zero h = h
none_before (suc j) {y} h = none_before j (subst NoSymbol (turns-turn 3 (turns j y) ∙ turns-four (turns j y)) (none-turns 3 h))

-- ---- under QPSK and 8-PSK: the octant goes two on
-- a sample that a quarter turn leaves alike has no number
still-none : (y : C32) → AlikeSample (turn y) y → NoSymbol y
still-none y p =
    let same = class-alike p.imag in
    by (class y.im) refl (sym (class-neg y.im) ∙ class-alike p.real ∙ same) same
  where
    by : (b : Class) → class y.im ≡ b → flip b ≡ b → class y.re ≡ b → NoSymbol y
    by low q h r = absurd (yes (sym (ap is_high h)))
    by nil q h r = is-silent (record { real = nil-alike y.re r; imag = nil-alike y.im q })
    by high q h r = absurd (yes (ap is_high h))
    by none q h r = imag-nan (none-nan y.im q)

octant-on : (y : C32) → (NoSymbol y → ⊥) → octant_of (turn y) ≡ (octant_of y + 2) % 8
octant-on y some = by (octants.turning y)
  where
    by : octants.Turning y → octant_of (turn y) ≡ (octant_of y + 2) % 8
    by (octants.on e) = e
    by (octants.still p) = absurd (some (still-none y p))
    by (octants.real-nan p) = absurd (some (real-nan p))
    by (octants.imag-nan p) = absurd (some (imag-nan p))

octant-turns : (j : ℕ) (y : C32) → (NoSymbol y → ⊥) → octant_of (turns j y) ≡ (octant_of y + 2 * j) % 8
unfolding turns
octant-turns zero y some = let h = octant-below y in omega arith
octant-turns (suc j) y some =
    let e = octant-turns j y some in
    let f = octant-on (turns j y) (λ h. some (none_before j h)) in
    omega arith

-- ---- under BPSK: two quarter turns change the half plane
abbrev bpsk_by : Class → Class → ℕ
bpsk_by a b = cond (is_high (flip a) || (is_nil a && is_high (flip b))) 1 0

bpsk-by : (y : C32) → bpsk_of y ≡ bpsk_by (class y.re) (class y.im)
unfolding bpsk_of
bpsk-by y = λ j. cond (below-zero y.re j || (on-zero y.re j && below-zero y.im j)) 1 0

half-turn : (y : C32) → (NoSymbol y → ⊥) → bpsk_of (turns 2 y) ≡ (bpsk_of y + 1) % 2
half-turn y some =
    ap bpsk_of (turns-two y)
    ∙ bpsk-by (record { re = neg y.re; im = neg y.im })
    ∙ (λ j. bpsk_by (class-neg y.re j) (class-neg y.im j))
    ∙ by (class y.re) (class y.im) refl refl
    ∙ ap (λ (n : ℕ). (n + 1) % 2) (sym (bpsk-by y))
  where
    by : (a b : Class) → class y.re ≡ a → class y.im ≡ b → bpsk_by (flip a) (flip b) ≡ (bpsk_by a b + 1) % 2
    by low b p q = refl
    by high b p q = refl
    by nil low p q = refl
    by nil high p q = refl
    by nil nil p q = absurd (some (is-silent (record { real = nil-alike y.re p; imag = nil-alike y.im q })))
    by nil none p q = absurd (some (imag-nan (none-nan y.im q)))
    by none b p q = absurd (some (real-nan (none-nan y.re p)))

bpsk-turns : (i : ℕ) (y : C32) → (NoSymbol y → ⊥) → bpsk_of (turns (2 * i) y) ≡ (bpsk_of y + i) % 2
bpsk-turns zero y some = unfold turns in (let h = sector-below Bpsk y in unfold sector_of in omega arith)
bpsk-turns (suc i) y some =
    let e : 2 * suc i ≡ 2 + 2 * i = omega arith in
    let f = ap (λ (j : ℕ). bpsk_of (turns j y)) e ∙ ap bpsk_of (turns-add 2 (2 * i) y) in
    let g = half-turn (turns (2 * i) y) (λ h. some (none_before (2 * i) h)) in
    let h = bpsk-turns i y some in
    omega arith

-- ---- Q12
sector-turns : (c : CostasConstellation) (j : ℕ) → Onto c j → (y : C32) → (NoSymbol y → ⊥) → sector_of c (turns j y) ≡ (sector_of c y + numbers_on c j) % point_count c
unfolding sector_of
sector-turns Bpsk j even y some = let e : j ≡ 2 * (j / 2) = omega arith in ap (λ (k : ℕ). bpsk_of (turns k y)) e ∙ bpsk-turns (j / 2) y some
sector-turns Qpsk j on y some = let e = octant-turns j y some in omega arith
sector-turns Psk8 j on y some = octant-turns j y some

pub symbol-turned : (c : CostasConstellation) (j : ℕ) → Onto c j → (y : C32) → symbol_of c (turns j y) ≡ turned_number c j (symbol_of c y)
symbol-turned c j on y = by (reads y)
  where
    by : Reads y → symbol_of c (turns j y) ≡ turned_number c j (symbol_of c y)
    by (nothing h t) = (none-exactly c (turns j y)).1 (none-turns j h) ∙ ap (turned_number c j) (sym ((none-exactly c y).1 h))
    by (something h t) =
        number-otherwise c (turns j y) (λ n. h (none_before j n))
        ∙ ap Some (sector-turns c j on y h)
        ∙ ap (turned_number c j) (sym (number-otherwise c y h))
