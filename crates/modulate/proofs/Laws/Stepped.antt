-- `stepped` and `phase_step` by a floor: each is the floor of a fraction modulo 2^32, below 2^63 in size, and an end
-- from there up. Assumes nothing.
use Rattle.std.proofs.Common.{◌≡◌, ℕ, ◌+◌, ◌*◌, ◌^◌, ◌<◌, ◌≤◌, Bool, true, false, cond, T, ℤ, pos, sym, refl, ap, ◌∙◌, lt_irrefl, zero-lt-suc, lt_of_mul-lt-mul_right, arith, le-leb}
use lib.Ieee.{Float, nan, inf, fin, up, down, le, neg}
use lib.Ieee.Fits.{down_pos}
use lib.Ieee.Scale.{finite}
use lib.Ieee.Positive.{den, den_pos}
use borrow.Author.Tests.{lt-leb}
use Rattle.ieee.specs.Fraction.{plus, less, Val}
use Rattle.ieee.proofs.Laws.Order.{own_val, ineq, ineq-lt, le→cross}
use Rattle.numbers.specs.Whole.{whole_down, floor_plus, floor_less}
use Rattle.numbers.proofs.Laws.Whole.{floor-under, floor-next}
use Rattle.modulate.specs.Step.{wrapped, rounded, cast_end, stepped, phase_step, Wraps}
use Rattle.modulate.proofs.Laws.Rounded.{rounded-floor, wrapped-is, wrapped-unique}

-- a - b is the floor of (p - n) / c
pub record Floor (p n c a b : ℕ) : Type 0 where
  pub under : a * c + n ≤ p + b * c
  pub next : p + b * c < a * c + c + n

-- it is below k in size
pub record Sized (k p n c : ℕ) : Type 0 where
  pub high : p < n + k * c
  pub deep : n < p + k * c

-- a fraction has one floor
floor-one : (p n c a b a' b' : ℕ) → Floor p n c a b → Floor p n c a' b' → a + b' ≡ a' + b
floor-one p n c a b a' b' f g =
    let x : a + b' < a' + b + 1 = lt_of_mul-lt-mul_right c (omega arith) in
    let y : a' + b < a + b' + 1 = lt_of_mul-lt-mul_right c (omega arith) in
    omega arith

-- and an equal fraction has the same
pub floor-same : (p n c p' n' c' a b : ℕ) → 0 < c → 0 < c' → p * c' + n' * c ≡ p' * c + n * c' → Floor p n c a b → Floor p' n' c' a b
floor-same p n c p' n' c' a b C C' e f = record {
  under = let h = ineq a b 1 p' n' c' a b 1 p n c (zero-lt-suc 0) C refl (sym e) (let k = f.under in omega arith) in omega arith;
  next = let h = ineq-lt p' n' c' (a + 1) b 1 p n c (a + 1) b 1 C' (zero-lt-suc 0) (sym e) refl (let k = f.next in omega arith) in omega arith;
}

-- ---- `stepped`
own-floor : (s : Bool) (m : ℕ) (e : ℤ) → Floor (plus (fin s m e)) (less (fin s m e)) (down e) (cond s 0 (whole_down s (m * up e) (down e))) (cond s (whole_down s (m * up e) (down e)) 0)
own-floor false m e = record { under = floor-under (fin false m e) tt; next = floor-next (fin false m e) tt }
own-floor true m e = record { under = floor-under (fin true m e) tt; next = floor-next (fin true m e) tt }

own-size : (s : Bool) (m : ℕ) (e : ℤ) (p n c : ℕ) → Val (fin s m e) p n c → Sized (2 ^ 63) p n c → m * up e < cast_end * down e
own-size s m e p n c v w =
    let x = fin s m e in
    let h = ineq-lt (plus x) (less x) (down e) (2 ^ 63) 0 1 p n c (2 ^ 63) 0 1 (down_pos e) (zero-lt-suc 0) v.1 refl (let k = w.high in omega arith) in
    let g = ineq-lt 0 (2 ^ 63) 1 (plus x) (less x) (down e) 0 (2 ^ 63) 1 p n c (zero-lt-suc 0) (down_pos e) refl v.1 (let k = w.deep in omega arith) in
    go s h g
  where
    go : (s : Bool) → plus (fin s m e) * 1 + 0 * down e < 2 ^ 63 * down e + less (fin s m e) * 1 → 0 * down e + less (fin s m e) * 1 < plus (fin s m e) * 1 + 2 ^ 63 * down e → m * up e < cast_end * down e
    go false h g = omega arith
    go true h g = omega arith

-- below 2^63 in size: the floor wrapped
pub stepped-at : (w : Float) (p n c a b r : ℕ) → 0 < c → Val w p n c → Sized (2 ^ 63) p n c → Floor p n c a b → Wraps r a b → r ≡ stepped w
unfolding stepped
stepped-at nan p n c a b r C v h f g = absurd v.0
stepped-at (inf s) p n c a b r C v h f g = absurd v.0
stepped-at (fin s m e) p n c a b r C v h f g =
    let x = fin s m e in
    let d = whole_down s (m * up e) (down e) in
    wrapped-unique s d a b r (floor-one (plus x) (less x) (down e) a b (cond s 0 d) (cond s d 0) (floor-same p n c (plus x) (less x) (down e) a b C (down_pos e) (sym v.1) f) (own-floor s m e)) g
    ∙ sym (ap (λ (t : Bool). cond t (cond s 0 0xffffffff) (wrapped s d)) (lt-leb (cast_end * down e) (m * up e) (own-size s m e p n c v h)))

pub stepped-own : (v : Float) (r : ℕ) → T (finite v) → Sized (2 ^ 63) (plus v) (less v) (den v) → Wraps r (floor_plus v) (floor_less v) → r ≡ stepped v
stepped-own v r p h w = stepped-at v (plus v) (less v) (den v) (floor_plus v) (floor_less v) r (den_pos v) (own_val v p) h (record { under = floor-under v p; next = floor-next v p }) w

-- 2^63
abbrev pub end : Float
end = fin false 1 (pos 63)

-- from there up
pub stepped-top : (w : Float) → T (le end w) → 0xffffffff ≡ stepped w
unfolding stepped
stepped-top nan h = absurd (unfold le in h)
stepped-top (inf true) h = absurd (unfold le in h)
stepped-top (inf false) h = refl
stepped-top (fin false m e) h =
    sym (ap (λ (t : Bool). cond t 0xffffffff (wrapped false (whole_down false (m * up e) (down e)))) (le-leb (cast_end * down e) (m * up e) (let k = le→cross end (fin false m e) tt tt h in omega arith)))
stepped-top (fin true m e) h = let k = le→cross end (fin true m e) tt tt h in let d = down_pos e in absurd (lt_irrefl 0 (omega arith))

-- and from -2^63 down
pub stepped-bottom : (w : Float) → T (le w (neg end)) → 0 ≡ stepped w
unfolding stepped neg
stepped-bottom nan h = absurd (unfold le in h)
stepped-bottom (inf true) h = refl
stepped-bottom (inf false) h = absurd (unfold le in h)
stepped-bottom (fin true m e) h =
    sym (ap (λ (t : Bool). cond t 0 (wrapped true (whole_down true (m * up e) (down e)))) (le-leb (cast_end * down e) (m * up e) (let k = le→cross (fin true m e) (fin true 1 (pos 63)) tt tt h in omega arith)))
stepped-bottom (fin false m e) h = let k = le→cross (fin false m e) (fin true 1 (pos 63)) tt tt h in let d = down_pos e in absurd (lt_irrefl 0 (omega arith))

-- ---- `phase_step`
-- floor(v × 2^32 + 1/2)
turn-floor : (s : Bool) (m : ℕ) (e : ℤ) →
    Floor (plus (fin s m e) * 2 ^ 32 * 2 + down e) (less (fin s m e) * 2 ^ 32 * 2) (down e * 2) (cond s 0 (rounded s (m * up e * 2 ^ 32) (down e))) (cond s (rounded s (m * up e * 2 ^ 32) (down e)) 0)
turn-floor false m e = let h = rounded-floor false (m * up e * 2 ^ 32) (down e) (down_pos e) in record { under = omega arith; next = omega arith }
turn-floor true m e = let h = rounded-floor true (m * up e * 2 ^ 32) (down e) (down_pos e) in record { under = omega arith; next = omega arith }

-- below 2^31 in size: that floor wrapped
pub phase-step-floor : (s : Bool) (m : ℕ) (e : ℤ) → m * up e < 2 ^ 31 * down e
    → (a : ℕ) × (b : ℕ) × Floor (plus (fin s m e) * 2 ^ 32 * 2 + down e) (less (fin s m e) * 2 ^ 32 * 2) (down e * 2) a b × Wraps (phase_step (fin s m e)) a b
unfolding phase_step
phase-step-floor s m e h =
    let k = rounded s (m * up e * 2 ^ 32) (down e) in
    (cond s 0 k, cond s k 0, turn-floor s m e, rw (lt-leb (2 ^ 31 * down e) (m * up e) h) (wrapped-is s k))

-- from there up the end
pub phase-step-end : (s : Bool) (m : ℕ) (e : ℤ) → 2 ^ 31 * down e ≤ m * up e → phase_step (fin s m e) ≡ cond s 0 0xffffffff
unfolding phase_step
phase-step-end s m e h = rw (le-leb (2 ^ 31 * down e) (m * up e) h)
