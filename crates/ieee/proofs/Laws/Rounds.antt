-- A float that is a fraction rounded once: rounding keeps the order, and a sum, a product and a quotient each round
-- one exact fraction. Assumes nothing.
use mathlib.Core.Path.{◌≡◌, sym, ap, ◌∙◌, subst}
use Prim.Native.Nat.{ℕ, ◌+◌, ◌-◌, ◌*◌, ◌≤◌, ◌<◌}
use native.Mathlib.Nat.{lt_irrefl, le_of_eq, le_antisymm, add-mul, mul-le-mul_right, le_of_mul-le-mul_right, mul-pos}
use native.Mathlib.Omega.{arith}
use mathlib.Core.Bool.{Bool, true, false, not, cond}
use lib.IntN.{pos}
use lib.Dec.{eqb, eqb→eq, not_T, T, ltb, ltb→lt, nltb→le}
use lib.Ieee.{div, unlike, nan, inf, Float, fin, Format, up, down, round, add, sub, mul, neg, le}
use lib.Ieee.Order.{round_mono}
use lib.Ieee.Scale.{finite, round_same}
use lib.Ieee.Bits.{is_false}
use lib.Ieee.Positive.{first_pos, den, den_pos}
use Rattle.ieee.specs.Fraction.{plus, less, Val}
use Rattle.ieee.specs.Rounding.{Rounds, high, deep}
use Rattle.ieee.proofs.Laws.Round.{NonNeg, round-neg, round-zero, round-nonneg}
use Rattle.ieee.proofs.Laws.Order.{products, cross→le, neg-val, neg-le}

opposite : (x y : Float) → NonNeg x → NonNeg y → T (le (neg x) y)
unfolding neg
opposite nan y p q = absurd p
opposite (inf true) y p q = absurd p
opposite (fin true m e) y p q = absurd p
opposite (inf false) nan p q = absurd q
opposite (inf false) (inf true) p q = absurd q
opposite (inf false) (inf false) p q = unfold le in tt
opposite (inf false) (fin t n d) p q = unfold le in tt
opposite (fin false m e) nan p q = absurd q
opposite (fin false m e) (inf true) p q = absurd q
opposite (fin false m e) (inf false) p q = unfold le in tt
opposite (fin false m e) (fin true n d) p q = absurd q
opposite (fin false m e) (fin false n d) p q = cross→le (fin true m e) (fin false n d) tt tt (omega arith)

zeros : (f : Format) (c c' : ℕ) → 0 < c → 0 < c' → T (le (round f false 0 c) (round f true 0 c'))
zeros f c c' C C' = rw (round-zero f false c C, round-zero f true c' C') (cross→le (fin false 0 (pos 0)) (fin true 0 (pos 0)) tt tt (omega arith))

-- (p - n) * c' ≤ (p' - n') * c, with the differences as ℕ has them
gap : (p n c p' n' c' : ℕ) → n ≤ p → n' ≤ p' → p * c' + n' * c ≤ p' * c + n * c' → (p - n) * c' ≤ (p' - n') * c
gap p n c p' n' c' a b h =
    let x : (p - n) * c' + n * c' ≡ p * c' = sym (add-mul (p - n) n c') ∙ ap (λ (z : ℕ). z * c') (back p n a) in
    let y : (p' - n') * c + n' * c ≡ p' * c = sym (add-mul (p' - n') n' c) ∙ ap (λ (z : ℕ). z * c) (back p' n' b) in
    omega arith
  where
    back : (u v : ℕ) → v ≤ u → u - v + v ≡ u
    back u v k = omega arith

-- 0 ≤ p - n, p' - n' ≤ 0 and yet (p - n) / c ≤ (p' - n') / c': both are 0
none : (p n c p' n' c' : ℕ) → 0 < c' → n ≤ p → p' ≤ n' → p * c' + n' * c ≤ p' * c + n * c' → p - n ≡ 0
none p n c p' n' c' C a b h =
    let x = mul-le-mul_right c b in
    let y : p * c' ≤ n * c' = omega arith in
    let z : p ≤ n = le_of_mul-le-mul_right y C in
    omega arith

pub rounds-mono : (f : Format) (z z' : Float) (p n c p' n' c' : ℕ) → 0 < c → 0 < c' → Rounds f z p n c → Rounds f z' p' n' c' → p * c' + n' * c ≤ p' * c + n * c' → T (le z z')
rounds-mono f z z' p n c p' n' c' C C' (high a e) (high b g) h =
    rw (e, g) (round_mono f (p - n) c (p' - n') c' C C' (gap p n c p' n' c' a b h))
rounds-mono f z z' p n c p' n' c' C C' (deep a e) (high b g) h =
    rw (e, g, round-neg f false (n - p) c) (opposite (round f false (n - p) c) (round f false (p' - n') c') (round-nonneg f (n - p) c) (round-nonneg f (p' - n') c'))
rounds-mono f z z' p n c p' n' c' C C' (high a e) (deep b g) h =
    let u : p - n ≡ 0 = none p n c p' n' c' C' a b h in
    let v : n' - p' ≡ 0 = none n' p' c' n p c C b a (omega arith) in
    rw (e, g, u, v) (zeros f c c' C C')
rounds-mono f z z' p n c p' n' c' C C' (deep a e) (deep b g) h =
    rw (e, g, round-neg f false (n - p) c, round-neg f false (n' - p') c')
    (neg-le (round f false (n' - p') c') (round f false (n - p) c) (round_mono f (n' - p') c' (n - p) c C' C (gap n' p' c' n p c b a (omega arith))))

-- ---- the operations round exact fractions
-- z rounds r / c, where r is p - n by omega
pub at_high : (f : Format) (p n c r : ℕ) → p ≡ n + r → Rounds f (round f false r c) p n c
at_high f p n c r h = high (omega arith) (ap (λ (z : ℕ). round f false z c) (omega arith))

pub at-deep : (f : Format) (p n c r : ℕ) → n ≡ p + r → Rounds f (round f true r c) p n c
at-deep f p n c r h = deep (omega arith) (ap (λ (z : ℕ). round f true z c) (omega arith))

-- a - b
fall : (f : Format) (t : Bool) (a b p n c : ℕ) → p ≡ a → n ≡ b → (T t → a < b) → (T (not t) → b ≤ a) → Rounds f (cond t (round f true (b - a) c) (round f false (a - b) c)) p n c
fall f true a b p n c u v h k = let l = h tt in at-deep f p n c (b - a) (omega arith)
fall f false a b p n c u v h k = let l = k tt in at_high f p n c (a - b) (omega arith)

-- -a + b
rise : (f : Format) (t i : Bool) (a b p n c : ℕ) → p ≡ b → n ≡ a → (T t → a < b) → (T (not t) → b ≤ a) → (T (not i) → a ≤ b) → Rounds f (cond t (round f false (b - a) c) (round f i (a - b) c)) p n c
rise f true i a b p n c u v h k j = let l = h tt in at_high f p n c (b - a) (omega arith)
rise f false true a b p n c u v h k j = let l = k tt in at-deep f p n c (a - b) (omega arith)
rise f false false a b p n c u v h k j = let l = k tt in let g = j tt in at_high f p n c (a - b) (omega arith)

pub add_rounds : (f : Format) (x y : Float) → T (finite x) → T (finite y) → Rounds f (add f x y) (plus x * den y + plus y * den x) (less x * den y + less y * den x) (den x * den y)
unfolding add
add_rounds f nan y p q = absurd p
add_rounds f (inf s) y p q = absurd p
add_rounds f (fin s m e) nan p q = absurd q
add_rounds f (fin s m e) (inf t) p q = absurd q
add_rounds f (fin false m e) (fin false n d) p q = at_high f _ _ _ _ (omega arith)
add_rounds f (fin true m e) (fin true n d) p q = at-deep f _ _ _ _ (omega arith)
add_rounds f (fin false m e) (fin true n d) p q =
    let a = m * up e * down d in
    let b = n * up d * down e in
    fall f (ltb a b) a b _ _ _ (omega arith) (omega arith) (ltb→lt a b) (nltb→le a b)
add_rounds f (fin true m e) (fin false n d) p q =
    let a = m * up e * down d in
    let b = n * up d * down e in
    rise f (ltb a b) (ltb b a) a b _ _ _ (omega arith) (omega arith) (ltb→lt a b) (nltb→le a b) (nltb→le b a)

pub mul-rounds : (f : Format) (x y : Float) → T (finite x) → T (finite y) → Rounds f (mul f x y) (plus x * plus y + less x * less y) (plus x * less y + less x * plus y) (den x * den y)
mul-rounds f nan y p q = absurd p
mul-rounds f (inf s) y p q = absurd p
mul-rounds f (fin s m e) nan p q = absurd q
mul-rounds f (fin s m e) (inf t) p q = absurd q
mul-rounds f (fin false m e) (fin false n d) p q = unfold mul in at_high f _ _ _ _ (omega arith)
mul-rounds f (fin true m e) (fin true n d) p q = unfold mul in at_high f _ _ _ _ (omega arith)
mul-rounds f (fin false m e) (fin true n d) p q = unfold mul in at-deep f _ _ _ _ (omega arith)
mul-rounds f (fin true m e) (fin false n d) p q = unfold mul in at-deep f _ _ _ _ (omega arith)

-- an equal fraction
pub rounds-same : (f : Format) (z : Float) (p n c p' n' c' : ℕ) → 0 < c → 0 < c' → p * c' + n' * c ≡ p' * c + n * c' → Rounds f z p n c → Rounds f z p' n' c'
rounds-same f z p n c p' n' c' C C' h (high a e) =
    let k : n' ≤ p' = le_of_mul-le-mul_right (let x = mul-le-mul_right c' a in omega arith) C in
    high k (e ∙ round_same f false (p - n) c (p' - n') c' C C' (le_antisymm (gap p n c p' n' c' a k (le_of_eq h)) (gap p' n' c' p n c k a (le_of_eq (sym h)))))
rounds-same f z p n c p' n' c' C C' h (deep a e) =
    let k : p' ≤ n' = le_of_mul-le-mul_right (let x = mul-le-mul_right c' a in omega arith) C in
    deep k (e ∙ round_same f true (n - p) c (n' - p') c' C C' (le_antisymm (gap n p c n' p' c' a k (omega arith)) (gap n' p' c' n p c k a (omega arith))))

-- ---- the operations at values that are known as other fractions
sum_same : (P N d p n c Q O b q o k : ℕ) → P * c + n * d ≡ p * d + N * c → Q * k + o * b ≡ q * b + O * k
    → (P * b + Q * d) * (c * k) + (n * k + o * c) * (d * b) ≡ (p * k + q * c) * (d * b) + (N * b + O * d) * (c * k)
sum_same P N d p n c Q O b q o k h g =
    let x = simp products at (ap (λ (z : ℕ). z * (b * k)) h) in
    let y = simp products at (ap (λ (z : ℕ). z * (d * c)) g) in
    simp products (omega arith)

pub add_at : (f : Format) (x y : Float) (p n c q o k : ℕ) → 0 < c → 0 < k → Val x p n c → Val y q o k → Rounds f (add f x y) (p * k + q * c) (n * k + o * c) (c * k)
add_at f x y p n c q o k C K v w =
    rounds-same f (add f x y) _ _ _ _ _ _ (mul-pos (den_pos x) (den_pos y)) (mul-pos C K)
    (sum_same (plus x) (less x) (den x) p n c (plus y) (less y) (den y) q o k v.1 w.1)
    (add_rounds f x y v.0 w.0)

pub sub_at : (f : Format) (x y : Float) (p n c q o k : ℕ) → 0 < c → 0 < k → Val x p n c → Val y q o k → Rounds f (sub f x y) (p * k + o * c) (n * k + q * c) (c * k)
unfolding sub
sub_at f x y p n c q o k C K v w = add_at f x (neg y) p n c o q k C K v (neg-val y q o k w)

product-same : (P N d p n c Q O b q o k : ℕ) → P * c + n * d ≡ p * d + N * c → Q * k + o * b ≡ q * b + O * k
    → (P * Q + N * O) * (c * k) + (p * o + n * q) * (d * b) ≡ (p * q + n * o) * (d * b) + (P * O + N * Q) * (c * k)
product-same P N d p n c Q O b q o k h g =
    let x1 = simp products at (ap (λ (z : ℕ). z * (Q * k)) h) in
    let x2 = simp products at (ap (λ (z : ℕ). z * (O * k)) h) in
    let y1 = simp products at (ap (λ (z : ℕ). z * (p * d)) g) in
    let y2 = simp products at (ap (λ (z : ℕ). z * (n * d)) g) in
    simp products (omega arith)

pub mul_at : (f : Format) (x y : Float) (p n c q o k : ℕ) → 0 < c → 0 < k → Val x p n c → Val y q o k → Rounds f (mul f x y) (p * q + n * o) (p * o + n * q) (c * k)
mul_at f x y p n c q o k C K v w =
    rounds-same f (mul f x y) _ _ _ _ _ _ (mul-pos (den_pos x) (den_pos y)) (mul-pos C K)
    (product-same (plus x) (less x) (den x) p n c (plus y) (less y) (den y) q o k v.1 w.1)
    (mul-rounds f x y v.0 w.0)

-- ---- a quotient by a value above zero
pub div-rounds : (f : Format) (x y : Float) → T (finite x) → T (finite y) → 0 < plus y → Rounds f (div f x y) (plus x * den y) (less x * den y) (plus y * den x)
unfolding div
div-rounds f (fin s m e) (fin true n d) p q h = absurd (lt_irrefl 0 h)
div-rounds f nan y p q h = elim p [ ]
div-rounds f (inf _) y p q h = elim p [ ]
div-rounds f (fin s m e) nan p q h = elim q [ ]
div-rounds f (fin s m e) (inf _) p q h = elim q [ ]
div-rounds f (fin s m e) (fin false n d) p q h =
    subst (λ (b : Bool). Rounds f (cond b (cond (eqb m 0) nan (inf (unlike s false))) (round f (unlike s false) (m * up e * down d) (n * up d * down e))) (plus (fin s m e) * down d) (less (fin s m e) * down d) (n * up d * down e))
    (sym (is_false (eqb n 0) (not_T (eqb n 0) (λ t. lt_irrefl 0 (subst (λ (z : ℕ). 0 < z) (eqb→eq n 0 t) (first_pos n (up d) h)))))) (go s)
  where
    go : (s : Bool) → Rounds f (round f (unlike s false) (m * up e * down d) (n * up d * down e)) (plus (fin s m e) * down d) (less (fin s m e) * down d) (n * up d * down e)
    go false = at_high f _ _ _ _ (omega arith)
    go true = at-deep f _ _ _ _ (omega arith)
