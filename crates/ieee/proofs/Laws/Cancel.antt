-- A sum of two values that cancel is +0. Assumes nothing.
use mathlib.Core.Path.{◌≡◌, ap, ◌∙◌}
use Prim.Native.Nat.{ℕ, ◌+◌, ◌-◌, ◌*◌, ◌<◌}
use native.Mathlib.Nat.{lt_irrefl, mul-pos}
use native.Mathlib.Omega.{arith}
use mathlib.Core.Bool.{Bool, true, false, cond}
use lib.Dec.{T, ltb, ltb→lt}
use lib.Ieee.{Float, nan, inf, fin, Format, up, down, round, add}
use lib.Ieee.Fits.{down_pos}
use lib.Ieee.Scale.{finite}
use lib.Ieee.Positive.{den}
use Rattle.ieee.specs.Notation.{zero₀}
use Rattle.ieee.specs.Fraction.{plus, less, Val}
use Rattle.ieee.proofs.Laws.Round.{round-zero}
use Rattle.ieee.proofs.Laws.Order.{products}

-- the sum's two tests, t whether a < b and i whether the result has a minus sign
none_left : (f : Format) (u t i : Bool) (a b c : ℕ) → 0 < c → a ≡ b → (T t → a < b) → (T i → b < a) → cond t (round f u (b - a) c) (round f i (a - b) c) ≡ zero₀
none_left f u true i a b c C e h k = let l = h tt in absurd (lt_irrefl a (omega arith))
none_left f u false true a b c C e h k = let l = k tt in absurd (lt_irrefl a (omega arith))
none_left f u false false a b c C e h k = ap (λ (z : ℕ). round f false z c) (omega arith) ∙ round-zero f false c C

add-cancels : (f : Format) (x y : Float) → T (finite x) → T (finite y) → 0 < plus y + less y → plus x * den y + plus y * den x ≡ less x * den y + less y * den x → add f x y ≡ zero₀
unfolding add
add-cancels f nan y p q g h = absurd p
add-cancels f (inf s) y p q g h = absurd p
add-cancels f (fin s m e) nan p q g h = absurd q
add-cancels f (fin s m e) (inf t) p q g h = absurd q
add-cancels f (fin false m e) (fin false n d) p q g h = let k = mul-pos g (down_pos e) in absurd (lt_irrefl 0 (omega arith))
add-cancels f (fin true m e) (fin true n d) p q g h = let k = mul-pos g (down_pos e) in absurd (lt_irrefl 0 (omega arith))
add-cancels f (fin false m e) (fin true n d) p q g h =
    let a = m * up e * down d in
    let b = n * up d * down e in
    none_left f true (ltb a b) false a b (down e * down d) (mul-pos (down_pos e) (down_pos d)) (omega arith) (ltb→lt a b) (λ t. absurd t)
add-cancels f (fin true m e) (fin false n d) p q g h =
    let a = m * up e * down d in
    let b = n * up d * down e in
    none_left f false (ltb a b) (ltb b a) a b (down e * down d) (mul-pos (down_pos e) (down_pos d)) (omega arith) (ltb→lt a b) (ltb→lt b a)

sum-zero : (P N d p n Q O b q o : ℕ) → P * 1 + n * d ≡ p * d + N * 1 → Q * 1 + o * b ≡ q * b + O * 1 → p + q ≡ n + o → P * b + Q * d ≡ N * b + O * d
sum-zero P N d p n Q O b q o h g e =
    let x = simp products at (ap (λ (z : ℕ). z * b) h) in
    let y = simp products at (ap (λ (z : ℕ). z * d) g) in
    let z = simp products at (ap (λ (z : ℕ). z * (d * b)) e) in
    simp products (omega arith)

pub cancels : (f : Format) (x y : Float) (p n q o : ℕ) → 0 < plus y + less y → Val x p n 1 → Val y q o 1 → p + q ≡ n + o → add f x y ≡ zero₀
cancels f x y p n q o g v w e = add-cancels f x y v.0 w.0 g (sum-zero (plus x) (less x) (den x) p n (plus y) (less y) (den y) q o v.1 w.1 e)
