-- Floats that are alike up to a sign, zeros counted as one: every operation keeps it. Assumes nothing.
use mathlib.Core.Path.{◌≡◌, refl, sym, ap, ◌∙◌}
use Prim.Native.Nat.{ℕ, zero, suc, ◌+◌, ◌-◌, ◌*◌, ◌<◌}
use native.Mathlib.Nat.{zero-mul, zero-add, sub-zero, mul_comm, mul_assoc, mul_left_comm, mul-pos}
use native.Mathlib.Omega.{arith}
use mathlib.Core.Bool.{Bool, true, false, not, ◌&&◌, beq, cond}
use lib.Dec.{T, ltb, eqb, nltb→le, eqb-suc-zero}
use lib.IntN.{ℤ, pos}
use lib.Ieee.{Float, nan, inf, fin, Format, up, down, unlike, round, sum, neg, add, sub, mul, div}
use lib.Ieee.Fits.{up_pos, down_pos}
use lib.Ieee.Scale.{round_same}
use Rattle.ieee.specs.Alike.{plain, signed, Like}
use Rattle.ieee.proofs.Laws.Round.{round-neg, round-zero}
use Rattle.ieee.proofs.Laws.Algebra.{neg-neg, mul-neg, mul-neg-right, mul-negs, mul-swap, add-swap, sub_is, div-neg}

-- ---- what the relation says: a number is alike itself, and opposite to its negative
pub like-refl : (x : Float) → Like false x x
unfolding signed
like-refl x = record { same = refl }

-- ---- what an operation does with `plain` of an argument
zero-alike : (s t : Bool) (d e : ℤ) → plain (fin s zero d) ≡ plain (fin t zero e)
unfolding plain
zero-alike s t d e = refl

pub plain-neg : (x : Float) → plain (neg (plain x)) ≡ plain (neg x)
unfolding plain neg
plain-neg nan = refl
plain-neg (inf s) = refl
plain-neg (fin s zero e) = refl
plain-neg (fin s (suc m) e) = refl

-- `mul`, `add` and `div` of two finite values, with `round` and `sum` left folded: `unfolding mul` would unfold these
-- too, and make a rewritten goal very long
pub mul-fin : (f : Format) (s t : Bool) (m n : ℕ) (e d : ℤ) → mul f (fin s m e) (fin t n d) ≡ round f (unlike s t) (m * up e * (n * up d)) (down e * down d)
unfolding mul
mul-fin f s t m n e d = refl

pub add-fin : (f : Format) (s t : Bool) (m n : ℕ) (e d : ℤ) → add f (fin s m e) (fin t n d) ≡ sum f s (m * up e * down d) t (n * up d * down e) (down e * down d)
unfolding add
add-fin f s t m n e d = refl

-- ---- products
mul-zero : (f : Format) (s t : Bool) (n : ℕ) (e d : ℤ) → mul f (fin s zero e) (fin t n d) ≡ fin (unlike s t) 0 (pos 0)
mul-zero f s t n e d = rw mul-fin (simp zero-mul (round-zero f (unlike s t) (down e * down d) (mul-pos (down_pos e) (down_pos d))))

mul_left : (f : Format) (x y : Float) → plain (mul f (plain x) y) ≡ plain (mul f x y)
unfolding plain mul
mul_left f nan y = refl
mul_left f (inf s) y = refl
mul_left f (fin s zero e) nan = refl
mul_left f (fin s zero e) (inf t) = refl
mul_left f (fin s zero e) (fin t n d) = ap plain (mul-zero f false t n (pos 0) d) ∙ sym (ap plain (mul-zero f s t n e d))
mul_left f (fin s (suc m) e) y = refl

pub plain-mul : (f : Format) (x y : Float) → plain (mul f (plain x) (plain y)) ≡ plain (mul f x y)
plain-mul f x y = cc (mul_left f x (plain y), mul-swap f x (plain y), mul_left f y x, mul-swap f y x)

mul-signed : (f : Format) (s t : Bool) (x y : Float) → mul f (signed s x) (signed t y) ≡ signed (unlike s t) (mul f x y)
unfolding signed
mul-signed f true true x y = mul-negs f x y
mul-signed f true false x y = mul-neg f x y
mul-signed f false true x y = mul-neg-right f x y
mul-signed f false false x y = refl

-- ---- sums
-- a zero and b / c: it is b / c, to the sign of a zero
sum-zero-pick : (f : Format) (t s : Bool) (b c : ℕ) (p q : Bool) → (T (not p) → b ≡ 0) → 0 < c
    → plain (cond p (round f t (b - 0) c) (round f (s && q) (0 - b) c)) ≡ plain (round f t b c)
sum-zero-pick f t s b c true q h C = rw sub-zero
sum-zero-pick f t s b c false q h C = rw (h tt, sub-zero, round-zero f (s && q) c C, round-zero f t c C) (zero-alike (s && q) t (pos 0) (pos 0))

sum-zero : (f : Format) (s t : Bool) (b c : ℕ) → 0 < c → plain (sum f s 0 t b c) ≡ plain (round f t b c)
unfolding sum
sum-zero f true true b c C = rw (zero-add b)
sum-zero f false false b c C = rw (zero-add b)
sum-zero f true false b c C = sum-zero-pick f false true b c (ltb 0 b) (ltb b 0) (λ (p : T (not (ltb 0 b))). omega (arith, nltb→le 0 b p)) C
sum-zero f false true b c C = sum-zero-pick f true false b c (ltb 0 b) (ltb b 0) (λ (p : T (not (ltb 0 b))). omega (arith, nltb→le 0 b p)) C

add-zero : (f : Format) (s t : Bool) (n : ℕ) (e d : ℤ) → plain (add f (fin s zero e) (fin t n d)) ≡ plain (round f t (n * up d) (down d))
add-zero f s t n e d = rw add-fin (simp zero-mul (sum-zero f s t (n * up d * down e) (down e * down d) (mul-pos (down_pos e) (down_pos d))
    ∙ ap plain (round_same f t (n * up d * down e) (down e * down d) (n * up d) (down d) (mul-pos (down_pos e) (down_pos d)) (down_pos d) (simp (mul_assoc, mul_comm, mul_left_comm)))))

add_left : (f : Format) (x y : Float) → plain (add f (plain x) y) ≡ plain (add f x y)
unfolding plain add
add_left f nan y = refl
add_left f (inf s) y = refl
add_left f (fin s zero e) nan = refl
add_left f (fin s zero e) (inf t) = refl
add_left f (fin s zero e) (fin t n d) = add-zero f false t n (pos 0) d ∙ sym (add-zero f s t n e d)
add_left f (fin s (suc m) e) y = refl

pub plain-add : (f : Format) (x y : Float) → plain (add f (plain x) (plain y)) ≡ plain (add f x y)
plain-add f x y = cc (add_left f x (plain y), add-swap f x (plain y), add_left f y x, add-swap f y x)

-- -x + -y is -(x + y), to the sign of a zero; p and q are whether a < b and b < a
odd-pick : (f : Format) (s : Bool) (a b c : ℕ) (p q : Bool) → (T (not p) → T (not q) → a - b ≡ 0) → 0 < c
    → plain (cond p (round f s (b - a) c) (round f (not s && q) (a - b) c)) ≡ plain (neg (cond p (round f (not s) (b - a) c) (round f (s && q) (a - b) c)))
unfolding neg
odd-pick f true a b c true q h C = ap plain (round-neg f false (b - a) c)
odd-pick f false a b c true q h C = ap plain (round-neg f true (b - a) c)
odd-pick f true a b c false true h C = ap plain (round-neg f true (a - b) c)
odd-pick f false a b c false true h C = ap plain (round-neg f false (a - b) c)
odd-pick f true a b c false false h C = rw (h tt tt, round-zero f false c C) (zero-alike false true (pos 0) (pos 0))
odd-pick f false a b c false false h C = rw (h tt tt, round-zero f false c C) (zero-alike false true (pos 0) (pos 0))

none_left : (a b : ℕ) → T (not (ltb a b)) → T (not (ltb b a)) → a - b ≡ 0
none_left a b p q = omega (arith, nltb→le a b p, nltb→le b a q)

sum-odd : (f : Format) (s t : Bool) (a b c : ℕ) → 0 < c → plain (sum f (not s) a (not t) b c) ≡ plain (neg (sum f s a t b c))
unfolding sum
sum-odd f true true a b c C = ap plain (round-neg f true (a + b) c)
sum-odd f false false a b c C = ap plain (round-neg f false (a + b) c)
sum-odd f true false a b c C = odd-pick f true a b c (ltb a b) (ltb b a) (none_left a b) C
sum-odd f false true a b c C = odd-pick f false a b c (ltb a b) (ltb b a) (none_left a b) C

infs-odd : (s t : Bool) → cond (beq (not s) (not t)) (inf (not s)) nan ≡ neg (cond (beq s t) (inf s) nan)
unfolding neg
infs-odd true true = refl
infs-odd true false = refl
infs-odd false true = refl
infs-odd false false = refl

plain-odd : (f : Format) (x y : Float) → plain (add f (neg x) (neg y)) ≡ plain (neg (add f x y))
unfolding add neg
plain-odd f nan y = refl
plain-odd f (inf s) nan = refl
plain-odd f (inf s) (inf t) = ap plain (infs-odd s t)
plain-odd f (inf s) (fin t n d) = refl
plain-odd f (fin s m e) nan = refl
plain-odd f (fin s m e) (inf t) = refl
plain-odd f (fin s m e) (fin t n d) = sum-odd f s t (m * up e * down d) (n * up d * down e) (down e * down d) (mul-pos (down_pos e) (down_pos d))

add-signed : (f : Format) (s : Bool) (x y : Float) → plain (add f (signed s x) (signed s y)) ≡ plain (signed s (add f x y))
unfolding signed
add-signed f true x y = plain-odd f x y
add-signed f false x y = refl

-- ---- quotients, in the numerator: in the denominator a zero's sign matters
-- a zero over y
over : Float → Float
over nan = nan
over (inf t) = fin false 0 (pos 0)
over (fin t zero d) = nan
over (fin t (suc n) d) = fin false 0 (pos 0)

div-fin : (f : Format) (s t : Bool) (m n : ℕ) (e d : ℤ)
    → div f (fin s m e) (fin t n d) ≡ cond (eqb n 0) (cond (eqb m 0) nan (inf (unlike s t))) (round f (unlike s t) (m * up e * down d) (n * up d * down e))
unfolding div
div-fin f s t m n e d = refl

pos-suc : (n : ℕ) → 0 < suc n
pos-suc n = omega arith

zero-over : (f : Format) (s t : Bool) (n : ℕ) (e d : ℤ) → div f (fin s zero e) (fin t (suc n) d) ≡ fin (unlike s t) 0 (pos 0)
zero-over f s t n e d = rw (div-fin, eqb-suc-zero n) (simp zero-mul (round-zero f (unlike s t) (suc n * up d * down e) (mul-pos (mul-pos (pos-suc n) (up_pos d)) (down_pos e))))

div-zero : (f : Format) (s : Bool) (e : ℤ) (y : Float) → plain (div f (fin s zero e) y) ≡ over y
unfolding div over plain
div-zero f s e nan = refl
div-zero f s e (inf t) = refl
div-zero f s e (fin t zero d) = refl
div-zero f s e (fin t (suc n) d) = ap plain (zero-over f s t n e d)

div-left : (f : Format) (x y : Float) → plain (div f (plain x) y) ≡ plain (div f x y)
unfolding plain div
div-left f nan y = refl
div-left f (inf s) y = refl
div-left f (fin s zero e) y = div-zero f false (pos 0) y ∙ sym (div-zero f s e y)
div-left f (fin s (suc m) e) y = refl

div-signed : (f : Format) (s : Bool) (x y : Float) → div f (signed s x) y ≡ signed s (div f x y)
unfolding signed
div-signed f true x y = div-neg f x y
div-signed f false x y = refl

-- ---- `Like`
pub like-of-eq : {x y : Float} → x ≡ y → Like false x y
unfolding signed
like-of-eq e = record { same = ap plain e }

neg-signed : (s : Bool) (y : Float) → neg (signed s y) ≡ signed s (neg y)
unfolding signed
neg-signed true y = refl
neg-signed false y = refl

not-signed : (s : Bool) (y : Float) → neg (signed s y) ≡ signed (not s) y
unfolding signed
not-signed true y = neg-neg y
not-signed false y = refl

signed-signed : (s t : Bool) (y : Float) → signed s (signed t y) ≡ signed (unlike s t) y
unfolding signed
signed-signed true true y = neg-neg y
signed-signed true false y = refl
signed-signed false true y = refl
signed-signed false false y = refl

plain-signed : (s : Bool) (y : Float) → plain (signed s (plain y)) ≡ plain (signed s y)
unfolding signed plain
plain-signed true y = plain-neg y
plain-signed false nan = refl
plain-signed false (inf s) = refl
plain-signed false (fin s zero e) = refl
plain-signed false (fin s (suc m) e) = refl

pub like-trans : {s t : Bool} {x y z : Float} → Like s x y → Like t y z → Like (unlike s t) x z
like-trans {s} {t} {x} {y} {z} p q = record { same = cc (p.same, q.same, plain-signed s y, plain-signed s (signed t z), signed-signed s t z) }

-- `like-trans` where the first sign is known: at a goal it leaves nothing open
pub like-then : {s : Bool} {x y z : Float} → Like false x y → Like s y z → Like s x z
like-then {s = true} p q = like-trans p q
like-then {s = false} p q = like-trans p q

pub like-sym : {s : Bool} {x y : Float} → Like s x y → Like s y x
unfolding signed
like-sym {s} {x} {y} p = record { same = sym (cc (p.same, plain-signed s x, plain-signed s (signed s y), signed-signed s s y, twice s y)) }
  where
    twice : (s : Bool) (y : Float) → signed (unlike s s) y ≡ y
    twice true y = refl
    twice false y = refl

pub like-neg : {s : Bool} {x y : Float} → Like s x y → Like s (neg x) (neg y)
like-neg {s} {x} {y} p = record { same = cc (plain-neg x, plain-neg (signed s y), p.same, neg-signed s y) }

-- the opposite sign
pub like-not : {s : Bool} {x y : Float} → Like s x y → Like (not s) (neg x) y
like-not {s} {x} {y} p = record { same = cc (plain-neg x, plain-neg (signed s y), p.same, not-signed s y) }

pub like-add : (f : Format) {s : Bool} {x x' y y' : Float} → Like s x x' → Like s y y' → Like s (add f x y) (add f x' y')
like-add f {s} {x} {x'} {y} {y'} p q =
    record { same = cc (plain-add f x y, p.same, q.same, plain-add f (signed s x') (signed s y'), add-signed f s x' y') }

pub like-sub : (f : Format) {s : Bool} {x x' y y' : Float} → Like s x x' → Like s y y' → Like s (sub f x y) (sub f x' y')
like-sub f {s} {x} {x'} {y} {y'} p q = rw (sub_is f x y, sub_is f x' y') (like-add f p (like-neg q))

pub like-mul : (f : Format) {s t : Bool} {x x' y y' : Float} → Like s x x' → Like t y y' → Like (unlike s t) (mul f x y) (mul f x' y')
like-mul f {s} {t} {x} {x'} {y} {y'} p q =
    record { same = cc (plain-mul f x y, p.same, q.same, plain-mul f (signed s x') (signed t y'), mul-signed f s t x' y') }

-- `like-mul` where one sign is known, for `search`, which cannot read s and t off `unlike s t`
pub like-mul-l : (f : Format) {s : Bool} {x x' y y' : Float} → Like s x x' → Like false y y' → Like s (mul f x y) (mul f x' y')
like-mul-l f {s = true} p q = like-mul f p q
like-mul-l f {s = false} p q = like-mul f p q

pub like-mul-r : (f : Format) {s : Bool} {x x' y y' : Float} → Like false x x' → Like s y y' → Like s (mul f x y) (mul f x' y')
like-mul-r f {s = true} p q = like-mul f p q
like-mul-r f {s = false} p q = like-mul f p q

pub like-div : (f : Format) {s : Bool} {x x' : Float} (y : Float) → Like s x x' → Like s (div f x y) (div f x' y)
like-div f {s} {x} {x'} y p = record { same = cc (div-left f x y, p.same, div-left f (signed s x') y, div-signed f s x' y) }

-- squares are the same as data: no zero's sign is left
square-plain : (f : Format) (x : Float) → mul f (plain x) (plain x) ≡ mul f x x
unfolding plain
square-plain f nan = refl
square-plain f (inf s) = refl
square-plain f (fin s zero e) = mul-zero f false false zero (pos 0) (pos 0) ∙ rw (own s) (sym (mul-zero f s s zero e e))
  where
    own : (s : Bool) → false ≡ unlike s s
    own true = refl
    own false = refl
square-plain f (fin s (suc m) e) = refl

square-signed : (f : Format) (s : Bool) (x : Float) → mul f (signed s x) (signed s x) ≡ mul f x x
unfolding signed
square-signed f true x = mul-negs f x x
square-signed f false x = refl

pub like-square : (f : Format) {s : Bool} {x y : Float} → Like s x y → mul f x x ≡ mul f y y
like-square f {s} {x} {y} p = cc (square-plain f x, p.same, square-plain f (signed s y), square-signed f s y)

-- ---- for `search`: a sign that stands in the term, a zero, and a sum the other way round
pub like-minus : (x : Float) → Like true (neg x) x
like-minus x = like-not (like-refl x)

pub like-zero : (s : Bool) (t u : Bool) (d e : ℤ) → Like s (fin t zero d) (fin u zero e)
unfolding signed neg plain
like-zero true t u d e = record { same = refl }
like-zero false t u d e = record { same = refl }

pub like-flip : {x y : Float} → Like true x y → Like false x (neg y)
unfolding signed
like-flip p = record { same = p.same }

pub like-mul-n : (f : Format) {x x' y y' : Float} → Like true x x' → Like true y y' → Like false (mul f x y) (mul f x' y')
like-mul-n f p q = like-mul f p q

pub like-swap : {s : Bool} {x y : Float} → Like (not s) x y → Like s x (neg y)
unfolding signed
like-swap {s = true} {y = y} p = record { same = cc (p.same, neg-neg y) }
like-swap {s = false} p = record { same = p.same }

pub like-unnot : {s : Bool} {x y : Float} → Like (not s) x y → Like s (neg x) y
like-unnot {s = true} p = like-not p
like-unnot {s = false} p = like-not p

pub like-add-x : (f : Format) {s : Bool} {x x' y y' : Float} → Like s x y' → Like s y x' → Like s (add f x y) (add f x' y')
like-add-x f {x = x} {y = y} p q = rw (add-swap f x y) (like-add f q p)

-- a sum against a difference, and each the other way round
pub like-sub-x : (f : Format) {s : Bool} {x x' y y' : Float} → Like (not s) x y' → Like (not s) y x' → Like s (sub f x y) (sub f x' y')
like-sub-x f {s} {x} {x'} {y} {y'} p q = rw (sub_is f x y, sub_is f x' y') (like-add-x f (like-swap p) (like-unnot q))

pub like-add-sub : (f : Format) {s : Bool} {x x' y y' : Float} → Like s x x' → Like (not s) y y' → Like s (add f x y) (sub f x' y')
like-add-sub f {s} {x} {x'} {y} {y'} p q = rw (sub_is f x' y') (like-add f p (like-swap q))

pub like-add-sub-x : (f : Format) {s : Bool} {x x' y y' : Float} → Like (not s) x y' → Like s y x' → Like s (add f x y) (sub f x' y')
like-add-sub-x f {s} {x} {x'} {y} {y'} p q = rw (sub_is f x' y') (like-add-x f (like-swap p) q)

pub like-sub-add : (f : Format) {s : Bool} {x x' y y' : Float} → Like s x x' → Like (not s) y y' → Like s (sub f x y) (add f x' y')
like-sub-add f {s} {x} {x'} {y} {y'} p q = rw (sub_is f x y) (like-add f p (like-unnot q))

pub like-sub-add-x : (f : Format) {s : Bool} {x x' y y' : Float} → Like s x y' → Like (not s) y x' → Like s (sub f x y) (add f x' y')
like-sub-add-x f {s} {x} {x'} {y} {y'} p q = rw (sub_is f x y) (like-add-x f p (like-unnot q))

-- what the rules, and the hypotheses, make of an expression: every operation keeps a common sign
pub ruleset likes = (like-refl, like-minus, like-neg, like-add, like-sub, like-mul-l, like-mul-r, like-mul-n)

pub ruleset crossed = (like-add-x, like-sub-x, like-add-sub, like-add-sub-x, like-sub-add, like-sub-add-x)
