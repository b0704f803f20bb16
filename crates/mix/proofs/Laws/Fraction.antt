-- The low 20 bits of a phase over 2^20: 1 with these bits as its digits, less 1, gives it, and nothing is lost.
-- Assumes nothing.
use Rattle.std.proofs.Common.{◌≡◌, ℕ, zero, suc, ◌+◌, ◌*◌, ◌%◌, ◌^◌, ◌<◌, false, sym, refl, ap, ◌∙◌, subst, lt_irrefl, zero-lt-suc, arith, pow_pos, pow-add}
use lib.Ieee.{Float, binary32, round, add, sub, of_bits}
use lib.Ieee.Exact.{HasValue}
use Rattle.ieee.specs.Notation.{one₀}
use Rattle.ieee.specs.Rounding.{Rounds, high, deep}
use Rattle.ieee.proofs.Laws.Bits.{normal-value}
use Rattle.ieee.proofs.Laws.Exact.{parts-exact, same-value}
use Rattle.ieee.proofs.Laws.Order.{has-val}
use Rattle.ieee.proofs.Laws.Rounds.{sub_at}
use Rattle.mix.specs.Oscillator.{fraction}

-- 1 + n / 2^20
scaled : (n k : ℕ) → (2 ^ 23 + n * 8) * k * 2 ^ 20 ≡ (2 ^ 20 + n) * (k * 2 ^ 23)
scaled n k = omega arith

one_more : (n : ℕ) → n < 2 ^ 20 → HasValue (of_bits binary32 (n * 8 + 127 * 2 ^ 23)) false (2 ^ 20 + n) (2 ^ 20)
one_more n l =
    same-value (of_bits binary32 (n * 8 + 127 * 2 ^ 23)) false ((2 ^ 23 + n * 8) * 2 ^ 126) (2 ^ 149) (2 ^ 20 + n) (2 ^ 20) (pow_pos 149)
    (scaled n (2 ^ 126) ∙ ap (λ (z : ℕ). (2 ^ 20 + n) * z) (sym (pow-add 2 126 23)))
    (subst (λ (b : ℕ). HasValue (of_bits binary32 b) false ((2 ^ 23 + n * 8) * 2 ^ 126) (2 ^ 149)) (omega arith) (normal-value binary32 126 (n * 8) (omega arith) (omega arith)))

-- less 1, and no minus sign where nothing is left
none : sub binary32 (of_bits binary32 (127 * 2 ^ 23)) one₀ ≡ round binary32 false 0 (2 ^ 20)
unfolding of_bits sub add round
none = refl

less_one : (n : ℕ) → n < 2 ^ 20 → sub binary32 (of_bits binary32 (n * 8 + 127 * 2 ^ 23)) one₀ ≡ round binary32 false n (2 ^ 20)
less_one zero l = none
less_one (suc n) l =
    let x = of_bits binary32 (suc n * 8 + 127 * 2 ^ 23) in
    go x (sub_at binary32 x one₀ (2 ^ 20 + suc n) 0 (2 ^ 20) 1 0 1 (pow_pos 20) (zero-lt-suc 0) (has-val x false (2 ^ 20 + suc n) (2 ^ 20) (one_more (suc n) l)) (tt, refl))
  where
    go : (x : Float) → Rounds binary32 (sub binary32 x one₀) ((2 ^ 20 + suc n) * 1 + 0 * 2 ^ 20) (0 * 1 + 1 * 2 ^ 20) (2 ^ 20 * 1) → sub binary32 x one₀ ≡ round binary32 false (suc n) (2 ^ 20)
    go x (high a e) = e ∙ ap (λ (z : ℕ). round binary32 false z (2 ^ 20)) (omega arith)
    go x (deep a e) = absurd (lt_irrefl 0 (omega arith))

one-bits : of_bits binary32 (127 * 2 ^ 23) ≡ one₀
unfolding of_bits
one-bits = refl

pub fraction-is : (p : ℕ) → sub binary32 (of_bits binary32 (p % 2 ^ 20 * 8 + 127 * 2 ^ 23)) (of_bits binary32 (127 * 2 ^ 23)) ≡ fraction p
fraction-is p = ap (sub binary32 (of_bits binary32 (p % 2 ^ 20 * 8 + 127 * 2 ^ 23))) one-bits ∙ less_one (p % 2 ^ 20) (omega arith)

-- an f32 holds it: nothing is lost
pub fraction-exact : (p : ℕ) → HasValue (fraction p) false (p % 2 ^ 20) (2 ^ 20)
fraction-exact p = parts-exact binary32 (p % 2 ^ 20) 20 (omega arith) (omega arith) false

-- phases with the same low bits have the same
pub fraction-same : (p q : ℕ) → p % 2 ^ 20 ≡ q % 2 ^ 20 → fraction p ≡ fraction q
fraction-same p q e = ap (λ (a : ℕ). round binary32 false a (2 ^ 20)) e
