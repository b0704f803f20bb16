-- For every f32 the original's f64 form of the phase step is the exact one (C18). v × 2^32 is exact; half more is
-- exact too, or is taken back by a tie to even, or is far from a whole number. Assumes nothing.
use Rattle.std.proofs.Common.{◌≡◌, ℕ, suc, ◌+◌, ◌-◌, ◌*◌, ◌^◌, ◌<◌, ◌≤◌, Bool, true, false, cond, T, ◌⊎◌, ℤ, pos, negsuc, sym, refl, ap, ◌∙◌, subst, inl, inr, lt_trans, le_of_eq, lt_of_lt_of_le, lt_irrefl, zero-lt-suc, mul_assoc, lt_of_mul-lt-mul_right, mul-lt-mul_of_pos_right, mul-pos, pow-suc, mul-one, arith, lit<, lit≤, pow_pos, pow_mono, pow-add}
use lib.Pow.{pow-lt}
use lib.Ieee.{Float, nan, inf, fin, binary32, binary64, up, down, round, add, mul, neg, fits}
use lib.Ieee.Fits.{down_pos}
use lib.Ieee.Scale.{finite}
use lib.Ieee.Positive.{den, den_pos}
use Rattle.ieee.specs.Notation.{zero₀, half₀}
use Rattle.ieee.specs.Fraction.{plus, less, Val, Exact}
use Rattle.ieee.specs.Rounding.{Rounds, high, deep}
use Rattle.ieee.proofs.Laws.Test.{order}
use Rattle.ieee.proofs.Laws.Order.{own_val, has-val, cross→le, le→vals, between}
use Rattle.ieee.proofs.Laws.Rounds.{rounds-same, mul_at, add_at}
use Rattle.ieee.proofs.Laws.Held.{fits-parts, pow-back, on-grid, rounds-above, rounds-below}
use Rattle.ieee.proofs.Laws.Exact.{rounds-one-sided, rounds-exact, parts-exact}
use Rattle.ieee.proofs.Laws.Mono.{add-mono, mul-mono-left}
use Rattle.ieee.proofs.Laws.Even.{round-even}
use Rattle.modulate.specs.Step.{step_of, stepped, phase_step, turn₀, Wraps}
use Rattle.modulate.proofs.Laws.Stepped.{Floor, Sized, end, floor-same, stepped-at, stepped-top, stepped-bottom, phase-step-floor, phase-step-end}

-- ---- v × 2^32, of the size m × 2^e × 2^32, is a whole number m × 2^i or a fraction m / 2^l
data Scaled (m : ℕ) (e : ℤ) : Type 0 where
  whole : (i : ℕ) → m * up e * 2 ^ 32 ≡ m * 2 ^ i * down e → Scaled m e
  part : (l : ℕ) → l ≤ 117 → m * up e * 2 ^ 32 * 2 ^ l ≡ m * down e → Scaled m e

scaled : (s : Bool) (m : ℕ) (e : ℤ) → T (fits binary32 (fin s m e)) → Scaled m e
scaled s m (pos k) t = whole (k + 32) (mul_assoc m (2 ^ k) (2 ^ 32) ∙ ap (λ (z : ℕ). m * z) (sym (pow-add 2 k 32)) ∙ sym (mul-one (m * 2 ^ (k + 32))))
scaled s m (negsuc k) t = elim (order 31 k) [
  | inl h ↦ part (k - 31) (let g = pow-back (suc k) 149 (fits-parts binary32 s m (negsuc k) t).1 in omega arith) (one_up (2 ^ (k - 31)) (2 ^ suc k) (joined 32 (k - 31) (suc k) (omega arith)))
  | inr h ↦ whole (31 - k) (one-off (2 ^ (31 - k)) (2 ^ suc k) (joined (31 - k) (suc k) 32 (omega arith)))
]
  where
    joined : (i j n : ℕ) → i + j ≡ n → 2 ^ i * 2 ^ j ≡ 2 ^ n
    joined i j n h = sym (pow-add 2 i j) ∙ ap (λ (z : ℕ). 2 ^ z) h

    one_up : (L D : ℕ) → 2 ^ 32 * L ≡ D → m * 1 * 2 ^ 32 * L ≡ m * D
    one_up L D e = let g = ap (λ (z : ℕ). m * z) e in omega arith

    one-off : (I D : ℕ) → I * D ≡ 2 ^ 32 → m * 1 * 2 ^ 32 ≡ m * I * D
    one-off I D e = let g = ap (λ (z : ℕ). m * z) e in omega arith

-- v × 2^32 + 1/2, rounded twice; and of ±A / C for v × 2^32 the sum is (over - under) / (2 C)
abbrev sum : Float → Float
sum v = add binary64 (mul binary64 v turn₀) half₀

abbrev over : Bool → ℕ → ℕ → ℕ
over s A C = cond s 0 A * 2 + 1 * C

abbrev under : Bool → ℕ → ℕ → ℕ
under s A C = cond s A 0 * 2 + 0 * C

module _ (s : Bool) (m : ℕ) (e : ℤ) (A C : ℕ) (C₀ : 0 < C) (is : m * up e * 2 ^ 32 * C ≡ A * down e) (exact : Exact binary64 A C) where
  -- v × 2^32 is exact: ±A / C
  turned : Val (mul binary64 (fin s m e) turn₀) (cond s 0 A) (cond s A 0) C
  turned =
      let v = fin s m e in
      rounds-one-sided binary64 (mul binary64 v turn₀) (cond s 0 A) (cond s A 0) C (side s) (subst (λ (z : ℕ). Exact binary64 z C) (both s) exact)
      (rounds-same binary64 (mul binary64 v turn₀) _ _ _ (cond s 0 A) (cond s A 0) C (mul-pos (den_pos v) (zero-lt-suc 0)) C₀ (level s)
      (mul_at binary64 v turn₀ (plus v) (less v) (den v) (2 ^ 32) 0 1 (den_pos v) (zero-lt-suc 0) (own_val v tt) (tt, refl)))
    where
      side : (s : Bool) → (cond s 0 A ≡ 0) ⊎ (cond s A 0 ≡ 0)
      side true = inl refl
      side false = inr refl

      both : (s : Bool) → A ≡ cond s 0 A + cond s A 0
      both true = omega arith
      both false = omega arith

      level : (s : Bool) → (plus (fin s m e) * 2 ^ 32 + less (fin s m e) * 0) * C + cond s A 0 * (down e * 1) ≡ cond s 0 A * (down e * 1) + (plus (fin s m e) * 0 + less (fin s m e) * 2 ^ 32) * C
      level true = omega arith
      level false = omega arith

  sum-rounds : Rounds binary64 (sum (fin s m e)) (over s A C) (under s A C) (C * 2)
  sum-rounds = add_at binary64 (mul binary64 (fin s m e) turn₀) half₀ (cond s 0 A) (cond s A 0) C 1 0 2 C₀ (zero-lt-suc 1) turned (tt, refl)

  module _ (near : m * up e < 2 ^ 31 * down e) where
    A-below : A < 2 ^ 63 * C
    A-below = lt_of_mul-lt-mul_right (down e) (let k = mul-lt-mul_of_pos_right near C₀ in omega arith)

    -- the sum's floor gives the phase step
    step-floor : (a : ℕ) × (b : ℕ) × Floor (over s A C) (under s A C) (C * 2) a b × Wraps (phase_step (fin s m e)) a b
    step-floor =
        let g = phase-step-floor s m e near in
        (g.0, g.1, floor-same _ _ _ (over s A C) (under s A C) (C * 2) g.0 g.1 (mul-pos (down_pos e) (zero-lt-suc 1)) (mul-pos C₀ (zero-lt-suc 1)) (level s) g.2, g.3)
      where
        level : (s : Bool) → (plus (fin s m e) * 2 ^ 32 * 2 + down e) * (C * 2) + under s A C * (down e * 2) ≡ over s A C * (down e * 2) + less (fin s m e) * 2 ^ 32 * 2 * (C * 2)
        level true = omega arith
        level false = omega arith

    -- where the sum is exact, being a number of parts of 2^-(l + 1) with 53 digits
    by-exact : (l : ℕ) → l < 1074 → C ≡ 2 ^ l → over s A C < under s A C + 2 ^ 53 → under s A C < over s A C + 2 ^ 53 → phase_step (fin s m e) ≡ stepped (sum (fin s m e))
    by-exact l L c hi lo =
        let g = step-floor in
        let w = sum (fin s m e) in
        let p = over s A C in
        let n = under s A C in
        let D : C * 2 ≡ 2 ^ suc l = ap (λ (z : ℕ). z * 2) c ∙ sym (pow-suc 2 l) in
        let v : Val w p n (C * 2) =
        rounds-exact binary64 w p n (C * 2)
        (λ h. rw D (parts-exact binary64 (p - n) (suc l) (omega arith) L))
        (λ h. rw D (parts-exact binary64 (n - p) (suc l) (omega arith) L))
        sum-rounds in
        stepped-at w p n (C * 2) g.0 g.1 (phase_step (fin s m e)) (mul-pos C₀ (zero-lt-suc 1)) v
        (record { high = far p n C C₀ hi; deep = far n p C C₀ lo }) g.2 g.3
      where
        far : (a b c : ℕ) → 0 < c → a < b + 2 ^ 53 → a < b + 2 ^ 63 * (c * 2)
        far a b c C h = omega arith

    -- where v × 2^32 is at most 1/4 in size, the sum stays away from 0 and 1
    by-small : 4 * A ≤ C → phase_step (fin s m e) ≡ stepped (sum (fin s m e))
    by-small small =
        let g = step-floor in
        let a = g.0 in
        let b = g.1 in
        let w = sum (fin s m e) in
        let p = over s A C in
        let n = under s A C in
        let d = sides s in
        let D : 0 < C * 2 = mul-pos C₀ (zero-lt-suc 1) in
        let lo = fin false 1 (negsuc 1) in
        let hi = fin false 3 (negsuc 1) in
        let l = rounds-above binary64 lo w 1 0 4 p n (C * 2) (unfold fits in tt) (tt, refl) (zero-lt-suc 3) D sum-rounds (omega arith) in
        let h = rounds-below binary64 hi w 3 0 4 p n (C * 2) (unfold fits in tt) (tt, refl) (zero-lt-suc 3) D sum-rounds (omega arith) in
        let f = between lo w hi tt tt l h in
        let x = le→vals lo w 1 0 4 (plus w) (less w) (den w) (zero-lt-suc 3) (den_pos w) (tt, refl) (own_val w f) l in
        let y = le→vals w hi (plus w) (less w) (den w) 3 0 4 (den_pos w) (zero-lt-suc 3) (own_val w f) (tt, refl) h in
        let z = den_pos w in
        let i : a < b + 1 = lt_of_mul-lt-mul_right (C * 2) (let k = g.2.under in omega arith) in
        let j : b < a + 1 = lt_of_mul-lt-mul_right (C * 2) (let k = g.2.next in omega arith) in
        let same : a ≡ b = omega arith in
        stepped-at w (plus w) (less w) (den w) b b (phase_step (fin s m e)) (den_pos w) (own_val w f) (record { high = omega arith; deep = omega arith })
        (record { under = omega arith; next = omega arith }) (subst (λ (n : ℕ). Wraps (phase_step (fin s m e)) n b) same g.3)
      where
        sides : (s : Bool) → (cond s 0 A ≤ A) × (cond s A 0 ≤ A)
        sides true = (omega arith, omega arith)
        sides false = (omega arith, omega arith)

    -- where the sum is v × 2^32 again, which is a whole number
    by_whole : C ≡ 1 → Val (sum (fin s m e)) (cond s 0 A) (cond s A 0) 1 → phase_step (fin s m e) ≡ stepped (sum (fin s m e))
    by_whole c v =
        let g = step-floor in
        let w = sum (fin s m e) in
        let f : Floor (over s A 1) (under s A 1) (1 * 2) g.0 g.1 = subst (λ (z : ℕ). Floor (over s A z) (under s A z) (z * 2) g.0 g.1) c g.2 in
        let b : A < 2 ^ 63 * 1 = subst (λ (z : ℕ). A < 2 ^ 63 * z) c A-below in
        stepped-at w (cond s 0 A) (cond s A 0) 1 g.0 g.1 (phase_step (fin s m e)) (zero-lt-suc 0) v (within s b)
        (record { under = let k = f.under in omega arith; next = let k = f.next in omega arith }) g.3
      where
        within : (s : Bool) → A < 2 ^ 63 * 1 → Sized (2 ^ 63) (cond s 0 A) (cond s A 0) 1
        within true h = record { high = omega arith; deep = omega arith }
        within false h = record { high = omega arith; deep = omega arith }

-- ---- from 2^52 up 1/2 more is a tie, or less than half a place, and is lost
half-lost : (s : Bool) (z : Float) (m i : ℕ) → m < 2 ^ 52 → m * 2 ^ i < 2 ^ 1024 → Rounds binary64 z (over s (m * 2 ^ i) 1) (under s (m * 2 ^ i) 1) 2
    → (under s (m * 2 ^ i) 1 + 2 ^ 53 ≤ over s (m * 2 ^ i) 1) ⊎ (over s (m * 2 ^ i) 1 + 2 ^ 53 ≤ under s (m * 2 ^ i) 1) → Val z (cond s 0 (m * 2 ^ i)) (cond s (m * 2 ^ i) 0) 1
half-lost false z m i d t (high a e) (inl h) =
    let r = over false (m * 2 ^ i) 1 - under false (m * 2 ^ i) 1 in
    rw e (has-val (round binary64 false r 2) false (m * 2 ^ i) 1 (round-even binary64 false r 2 m i (zero-lt-suc 1) d (omega arith) (omega arith) (omega arith) t))
half-lost false z m i d t (deep a e) (inl h) = absurd (lt_irrefl 0 (omega arith))
half-lost false z m i d t r (inr h) = absurd (lt_irrefl 0 (omega arith))
half-lost true z m i d t (deep a e) (inr h) =
    let r = under true (m * 2 ^ i) 1 - over true (m * 2 ^ i) 1 in
    rw e (has-val (round binary64 true r 2) true (m * 2 ^ i) 1 (round-even binary64 true r 2 m i (zero-lt-suc 1) d (omega arith) (omega arith) (omega arith) t))
half-lost true z m i d t (high a e) (inr h) = absurd (lt_irrefl 0 (omega arith))
half-lost true z m i d t r (inl h) = absurd (lt_irrefl 0 (omega arith))

-- ---- every f32
module _ (s : Bool) (m : ℕ) (e : ℤ) (t : T (fits binary32 (fin s m e))) where
  digits : m < 2 ^ 24
  digits = (fits-parts binary32 s m e t).0

  module _ (i : ℕ) (is : m * up e * 2 ^ 32 ≡ m * 2 ^ i * down e) where
    whole-size : m * 2 ^ i < 2 ^ 1024
    whole-size = lt_trans (lt_of_mul-lt-mul_right (down e) (below (m * up e) (2 ^ 128) (2 ^ 160) (m * 2 ^ i * down e) (down e) (fits-parts binary32 s m e t).2 refl is)) (pow-lt {i = 160} {j = 1024} (omega arith))
      where
        below : (u a b x d : ℕ) → u < a * d → b ≡ a * 2 ^ 32 → u * 2 ^ 32 ≡ x → x < b * d
        below u a b x d h g k = let y = mul-lt-mul_of_pos_right h (pow_pos 32) in rw (g, sym k) (omega arith)

    whole_is : m * up e * 2 ^ 32 * 1 ≡ m * 2 ^ i * down e
    whole_is = mul-one (m * up e * 2 ^ 32) ∙ is

    whole-exact : Exact binary64 (m * 2 ^ i) 1
    whole-exact u = on-grid binary64 u m (pos i) (lt_of_lt_of_le digits (lit≤ tt)) (pow_pos 1074) (lt_of_lt_of_le whole-size (le_of_eq (sym (mul-one (2 ^ 1024)))))

  part-exact : (l : ℕ) → l ≤ 117 → Exact binary64 m (2 ^ l)
  part-exact l L = parts-exact binary64 m l (lt_of_lt_of_le digits (lit≤ tt)) (omega arith)

  turned-finite : Scaled m e → T (finite (mul binary64 (fin s m e) turn₀))
  turned-finite (whole i is) = (turned s m e (m * 2 ^ i) 1 (zero-lt-suc 0) (whole_is i is) (whole-exact i is)).0
  turned-finite (part l L is) = (turned s m e m (2 ^ l) (pow_pos l) is (part-exact l L)).0

  near_step : m * up e < 2 ^ 31 * down e → Scaled m e → phase_step (fin s m e) ≡ stepped (sum (fin s m e))
  near_step near (whole i is) =
      let A = m * 2 ^ i in
      elim (order (over s A 1) (under s A 1 + 2 ^ 53)) [
        | inl hi ↦ elim (order (under s A 1) (over s A 1 + 2 ^ 53)) [
          | inl lo ↦ by-exact s m e A 1 (zero-lt-suc 0) (whole_is i is) (whole-exact i is) near 0 (lit< tt) refl hi lo
          | inr h ↦ lost (inr h)
        ]
        | inr h ↦ lost (inl h)
      ]
    where
      lost : (under s (m * 2 ^ i) 1 + 2 ^ 53 ≤ over s (m * 2 ^ i) 1) ⊎ (over s (m * 2 ^ i) 1 + 2 ^ 53 ≤ under s (m * 2 ^ i) 1) → phase_step (fin s m e) ≡ stepped (sum (fin s m e))
      lost h =
          by_whole s m e (m * 2 ^ i) 1 (zero-lt-suc 0) (whole_is i is) (whole-exact i is) near refl
          (half-lost s (sum (fin s m e)) m i (lt_of_lt_of_le digits (lit≤ tt)) (whole-size i is) (sum-rounds s m e (m * 2 ^ i) 1 (zero-lt-suc 0) (whole_is i is) (whole-exact i is)) h)
  near_step near (part l L is) =
      elim (order l 30) [
        | inl h ↦ let b = bounds s (2 ^ l) (pow-lt h) digits in by-exact s m e m (2 ^ l) (pow_pos l) is (part-exact l L) near l (omega arith) refl b.0 b.1
        | inr h ↦ by-small s m e m (2 ^ l) (pow_pos l) is (part-exact l L) near (small (2 ^ l) (pow_mono h) digits)
      ]
    where
      bounds : (s : Bool) (C : ℕ) → C < 2 ^ 30 → m < 2 ^ 24 → (over s m C < under s m C + 2 ^ 53) × (under s m C < over s m C + 2 ^ 53)
      bounds true C h g = (omega arith, omega arith)
      bounds false C h g = (omega arith, omega arith)

      small : (C : ℕ) → 2 ^ 30 ≤ C → m < 2 ^ 24 → 4 * m ≤ C
      small C h g = omega arith

-- from 2^31 up in size both are at the same end
far-step : (s : Bool) (m : ℕ) (e : ℤ) → T (finite (mul binary64 (fin s m e) turn₀)) → 2 ^ 31 * down e ≤ m * up e → cond s 0 0xffffffff ≡ stepped (sum (fin s m e))
unfolding add mul neg
far-step false m e f h =
    let v = fin false m e in
    let x = fin false 1 (pos 31) in
    stepped-top (sum v) (add-mono binary64 end (mul binary64 v turn₀) half₀ half₀ tt f tt tt
    (mul-mono-left binary64 x v turn₀ tt tt tt (cross→le zero₀ turn₀ tt tt (omega arith)) (cross→le x v tt tt (omega arith))) (cross→le half₀ half₀ tt tt (omega arith)))
far-step true m e f h =
    let v = fin true m e in
    let x = fin true 1 (pos 31) in
    stepped-bottom (sum v) (add-mono binary64 (mul binary64 v turn₀) (fin true 1 (pos 63)) half₀ half₀ f tt tt tt
    (mul-mono-left binary64 v x turn₀ tt tt tt (cross→le zero₀ turn₀ tt tt (omega arith)) (cross→le v x tt tt (omega arith))) (cross→le half₀ half₀ tt tt (omega arith)))

pub step-single : (v : Float) → T (fits binary32 v) → step_of v turn₀ ≡ phase_step v
step-single nan t = unfold add mul stepped phase_step in refl
step-single (inf true) t = unfold add mul stepped phase_step in refl
step-single (inf false) t = unfold add mul stepped phase_step in refl
step-single (fin s m e) t = sym (elim (order (m * up e) (2 ^ 31 * down e)) [
  | inl h ↦ near_step s m e t h (scaled s m e t)
  | inr h ↦ phase-step-end s m e h ∙ far-step s m e (turned-finite s m e t (scaled s m e t)) h
])
