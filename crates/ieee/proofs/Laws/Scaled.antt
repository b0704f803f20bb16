-- 2 ^ k times a value that the format holds is exact, unless it overflows; so (2 ^ k * x) * y is (2 ^ k * y) * x,
-- to the last bit. Assumes nothing.
use mathlib.Core.Path.{◌≡◌, refl, sym, ap, ◌∙◌}
use Prim.Native.Nat.{ℕ, suc, ◌+◌, ◌-◌, ◌*◌, ◌^◌, ◌<◌, ◌≤◌}
use native.Mathlib.Nat.{zero-add, add-zero, mul_comm, mul_left_comm, mul_assoc, mul-one, one-mul, mul-pos, mul-mul-mul_comm, mul-lt-mul_of_pos_right, lt_of_mul-lt-mul_right}
use native.Mathlib.Omega.{arith}
use mathlib.Core.Bool.{Bool, true, false}
use lib.Dec.{T}
use lib.Pow.{pow_pos, pow-add}
use lib.IntN.{ℤ, pos, negsuc}
use lib.Ieee.{Float, nan, inf, fin, Format, prec, emax, low, up, down, unlike, round, mul, fits}
use lib.Ieee.Fits.{down_pos}
use lib.Ieee.Exact.{HasValue, round_exact}
use lib.Ieee.Scale.{finite, round_same}
use lib.Ieee.Positive.{den}
use Rattle.ieee.specs.Fraction.{plus, less, Exact}
use Rattle.ieee.proofs.Laws.Algebra.{mul-swap}
use Rattle.ieee.proofs.Laws.Like.{mul-fin}
use Rattle.ieee.proofs.Laws.Held.{fits-parts, pow-back}

-- ---- 2 ^ k times m * 2 ^ e, which is m * 2 ^ i of the format's smallest values
on-scale : (f : Format) (m : ℕ) (e : ℤ) (k i : ℕ) → m < 2 ^ prec f → m * up e * 2 ^ k < 2 ^ suc (emax f) * down e → m * up e * 2 ^ k * 2 ^ low f ≡ m * 2 ^ i * down e → Exact f (m * up e * 2 ^ k) (down e)
on-scale f m e k i M h q s =
    let a : m * up e * 2 ^ k * 2 ^ low f < 2 ^ suc (emax f) * down e * 2 ^ low f = mul-lt-mul_of_pos_right h (pow_pos (low f)) in
    let b : 2 ^ suc (emax f) * down e * 2 ^ low f ≡ 2 ^ (low f + suc (emax f)) * down e = simp (pow-add, mul_comm, mul_left_comm) in
    round_exact f s (m * up e * 2 ^ k) (down e) m i (down_pos e) M (lt_of_mul-lt-mul_right (down e) (rw (← q, ← b) a)) q

scaled_exact : (f : Format) (m : ℕ) (e : ℤ) (k : ℕ) → m < 2 ^ prec f → down e ≤ 2 ^ low f → m * up e * 2 ^ k < 2 ^ suc (emax f) * down e → Exact f (m * up e * 2 ^ k) (down e)
scaled_exact f m (pos j) k M L h = on-scale f m (pos j) k (j + k + low f) M h (rw (pow-add 2 (j + k) (low f), pow-add 2 j k) (simp (mul_assoc, mul-one)))
scaled_exact f m (negsuc j) k M L h =
    let l = low f in
    let J : suc j ≤ l = pow-back (suc j) l L in
    let i = l - suc j in
    let w : 2 ^ l ≡ 2 ^ i * 2 ^ suc j = ap (λ (z : ℕ). 2 ^ z) (omega arith) ∙ pow-add 2 i (suc j) in
    on-scale f m (negsuc j) k (k + i) M h (ap (λ (z : ℕ). m * 1 * 2 ^ k * z) w ∙ rw (pow-add 2 k i) (simp (mul-one, mul_assoc)))

-- ---- a product rounds once the fractions that its factors are
mul-value : (f : Format) (x y : Float) (s t : Bool) (a c b d : ℕ) → 0 < c → 0 < d → HasValue x s a c → HasValue y t b d → mul f x y ≡ round f (unlike s t) (a * b) (c * d)
mul-value f nan y s t a c b d C D h k = absurd h
mul-value f (inf u) y s t a c b d C D h k = absurd h
mul-value f (fin u m e) nan s t a c b d C D h k = absurd k
mul-value f (fin u m e) (inf w) s t a c b d C D h k = absurd k
mul-value f (fin u m e) (fin w n i) s t a c b d C D h k =
    mul-fin f u w m n e i ∙ rw (h.0, k.0)
    (round_same f (unlike s t) (m * up e * (n * up i)) (down e * down i) (a * b) (c * d) (mul-pos (down_pos e) (down_pos i)) (mul-pos C D)
    (mul-mul-mul_comm (m * up e) (n * up i) c d ∙ rw (h.1, k.1) (mul-mul-mul_comm a (down e) b (down i))))

scaled_value : (f : Format) (k : ℕ) (s : Bool) (m : ℕ) (e : ℤ) → T (fits f (fin s m e)) → m * up e * 2 ^ k < 2 ^ suc (emax f) * down e → HasValue (mul f (fin false 1 (pos k)) (fin s m e)) s (m * up e * 2 ^ k) (down e)
scaled_value f k s m e t h =
    let p = fits-parts f s m e t in
    rw (mul-fin f false s 1 m (pos k) e, one-mul (2 ^ k), mul_comm (2 ^ k) (m * up e), one-mul (down e), plus-sign s) (scaled_exact f m e k p.0 p.1 h s)
  where
    plus-sign : (s : Bool) → unlike false s ≡ s
    plus-sign true = refl
    plus-sign false = refl

-- ---- (2 ^ k * x) * y is (2 ^ k * y) * x
pub scaled-swap : (f : Format) (k : ℕ) (x y : Float) → T (finite x) → T (finite y) → T (fits f x) → T (fits f y)
    → (plus x + less x) * 2 ^ k < 2 ^ suc (emax f) * den x → (plus y + less y) * 2 ^ k < 2 ^ suc (emax f) * den y
    → let p = fin false 1 (pos k) in mul f (mul f p x) y ≡ mul f (mul f p y) x
scaled-swap f k nan y p q u w h g = elim p [ ]
scaled-swap f k (inf _) y p q u w h g = elim p [ ]
scaled-swap f k (fin s m e) nan p q u w h g = elim q [ ]
scaled-swap f k (fin s m e) (inf _) p q u w h g = elim q [ ]
scaled-swap f k (fin s m e) (fin t n d) p q u w h g =
    let x = fin s m e in
    let y = fin t n d in
    let z = fin false 1 (pos k) in
    let a = m * up e in
    let b = n * up d in
    mul-value f (mul f z x) y s t (a * 2 ^ k) (down e) b (down d) (down_pos e) (down_pos d) (scaled_value f k s m e u (size s m e h)) (refl, refl)
    ∙ ap (λ (i : ℕ). round f (unlike s t) i (down e * down d)) (mul_assoc a (2 ^ k) b ∙ ap (λ (i : ℕ). a * i) (mul_comm (2 ^ k) b))
    ∙ sym (mul-value f x (mul f z y) s t a (down e) (b * 2 ^ k) (down d) (down_pos e) (down_pos d) (refl, refl) (scaled_value f k t n d w (size t n d g)))
    ∙ mul-swap f x (mul f z y)
  where
    size : (s : Bool) (m : ℕ) (e : ℤ) → (plus (fin s m e) + less (fin s m e)) * 2 ^ k < 2 ^ suc (emax f) * down e → m * up e * 2 ^ k < 2 ^ suc (emax f) * down e
    size true m e h = rw zero-add at h
    size false m e h = rw add-zero at h
