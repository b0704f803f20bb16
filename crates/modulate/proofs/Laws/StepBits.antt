-- The arithmetic of the shift: ±m moved up by 2^63 has no sign, and what its quotient by 2^k gives, moved back, is
-- floor(±m / 2^(k + 1) + 1/2) modulo 2^32. Assumes nothing.
use Rattle.std.proofs.Common.{◌≡◌, ℕ, ◌+◌, ◌-◌, ◌*◌, ◌/◌, ◌%◌, ◌^◌, ◌<◌, ◌≤◌, Bool, true, false, cond, not, sym, ap, ◌∙◌, mul-le-mul_right, div-mul-le_self, le_of_mul-le-mul_right, arith, pow_pos, pow_mono, pow-add}
use native.Mathlib.Nat.{mul-add-div_right, lt-div-mul-add, div-eq_of_lt-le}
use Rattle.modulate.specs.Step.{wrapped, rounded}
use Rattle.modulate.proofs.Laws.Rounded.{rounded-unique}

-- ---- floor(±m / (2 d) + 1/2) from floor(±m / d), which is ±f
half_up : (m d f : ℕ) → f * d ≤ m → m < f * d + d → rounded false m (2 * d) ≡ (f + 1) / 2
half_up m d f h k =
    let n = (f + 1) / 2 in
    let p : n * 2 * d ≤ (f + 1) * d = mul-le-mul_right d (omega arith) in
    let q : f * d ≤ n * 2 * d = mul-le-mul_right d (omega arith) in
    rounded-unique false m (2 * d) n (omega arith, omega arith)

half_down : (m d f : ℕ) → m ≤ f * d → f * d < m + d → rounded true m (2 * d) ≡ f / 2
half_down m d f h k =
    let n = f / 2 in
    let p : n * 2 * d ≤ f * d = mul-le-mul_right d (omega arith) in
    let q : f * d ≤ (n * 2 + 1) * d = mul-le-mul_right d (omega arith) in
    rounded-unique true m (2 * d) n (omega arith, omega arith)

-- ---- the shift
-- 2^63 + m, or without p 2^63 - m
abbrev pub moved : Bool → ℕ → ℕ
moved p m = cond p (2 ^ 63 + m) (2 ^ 63 - m)

-- its quotient and one more, with what the shift makes of 2^63 taken off and 2^48 put on
abbrev pub quotient : Bool → ℕ → ℕ → ℕ
quotient p m d = moved p m / d + (2 ^ 48 - (2 ^ 63 - 1) / d)

-- a number f taken off 2^48, which is none of the low 33 bits
halved-below : (f : ℕ) → f ≤ 2 ^ 48 → (2 ^ 48 + 1 - f) / 2 ≡ 2 ^ 47 - f / 2
halved-below f h = omega arith

wraps-back : (n : ℕ) → n ≤ 2 ^ 47 → (2 ^ 47 - n) % 2 ^ 32 ≡ wrapped true n
wraps-back n h = omega arith

-- with 2^63 = b d
module _ (m b d : ℕ) (B : 0 < b) (D : 0 < d) (e : b * d ≡ 2 ^ 63) (low : b ≤ 2 ^ 47) (h : m < 2 ^ 63) where
  taken-off : (2 ^ 63 - 1) / d ≡ b - 1
  taken-off =
      let w : (b - 1 + 1) * d ≡ b * d = ap (λ (z : ℕ). z * d) (omega arith) in
      div-eq_of_lt-le {k = b - 1} d (omega arith) (omega arith)

  put_on : (2 ^ 63 + m) / d ≡ b + m / d
  put_on = ap (λ (z : ℕ). (z + m) / d) (sym e) ∙ mul-add-div_right D b m

  halved : (p : Bool) → quotient p m d / 2 % 2 ^ 32 ≡ wrapped (not p) (rounded (not p) m (2 * d))
  halved true =
      let r = half_up m d (m / d) (div-mul-le_self m d) (lt-div-mul-add D) in
      let x : b + m / d + (2 ^ 48 - (b - 1)) ≡ m / d + 1 + 2 ^ 48 = omega arith in
      rw (taken-off, put_on, r, x) (omega arith)
  halved false =
      let q = (2 ^ 63 - m) / d in
      let lo = div-mul-le_self (2 ^ 63 - m) d in
      let hi = lt-div-mul-add {a = 2 ^ 63 - m} D in
      let l : q ≤ b = le_of_mul-le-mul_right {k = d} (omega arith) D in
      let g : b - q + q ≡ b = omega arith in
      let w : (b - q + q) * d ≡ b * d = ap (λ (z : ℕ). z * d) g in
      let r = half_down m d (b - q) (omega arith) (omega arith) in
      let x : q + (2 ^ 48 - (b - 1)) ≡ 2 ^ 48 + 1 - (b - q) = omega arith in
      rw (taken-off, r, x, halved-below (b - q) (omega arith)) (wraps-back ((b - q) / 2) (omega arith))

-- for the counts that the code shifts by
module _ (m k : ℕ) (least : 16 ≤ k) (most : k ≤ 63) (h : m < 2 ^ 63) where
  split : 2 ^ (63 - k) * 2 ^ k ≡ 2 ^ 63
  split = sym (pow-add 2 (63 - k) k) ∙ ap (λ (z : ℕ). 2 ^ z) {x = 63 - k + k} {y = 63} (omega arith)

  room : 2 ^ (63 - k) ≤ 2 ^ 47
  room = pow_mono {i = 63 - k} {j = 47} (omega arith)

  pub shift-halved : (p : Bool) → quotient p m (2 ^ k) / 2 % 2 ^ 32 ≡ wrapped (not p) (rounded (not p) m (2 * 2 ^ k))
  shift-halved = halved m (2 ^ (63 - k)) (2 ^ k) (pow_pos (63 - k)) (pow_pos k) split room h

  pub shift-room : (2 ^ 63 - 1) / 2 ^ k ≤ 2 ^ 47
  shift-room = rw (taken-off m (2 ^ (63 - k)) (2 ^ k) (pow_pos (63 - k)) (pow_pos k) split room h) (let g = room in omega arith)
