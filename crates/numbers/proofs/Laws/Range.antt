-- A limited value lies within its limits, is what the original's `max` and `min` give, in either order,
-- is x itself where x lies within, and depends only on the numbers; and x - x tells whether x is finite.
-- Each law once, for both formats. Assumes nothing.
use mathlib.Core.Path.{◌≡◌, refl, sym, ap, subst}
use Prim.Native.Nat.{ℕ, ◌+◌, ◌*◌, ◌<◌}
use native.Mathlib.Nat.{mul-pos, zero-lt-suc}
use native.Mathlib.Omega.{arith}
use mathlib.Core.Bool.{Bool, true, false, not, cond}
use lib.Dec.{T}
use lib.Ieee.{Float, nan, inf, fin, Format, sub, neg, le, lt, eq}
use lib.Ieee.Bits.{is_true}
use lib.Ieee.Scale.{finite}
use lib.Ieee.Positive.{den, den_pos}
use Rattle.ieee.specs.Alike.{Alike}
use Rattle.ieee.specs.Notation.{zero₀}
use Rattle.ieee.specs.Fraction.{plus, less, Val, Exact, number}
use Rattle.ieee.proofs.Laws.Test.{yes}
use Rattle.ieee.proofs.Laws.Like.{like-neg}
use Rattle.ieee.proofs.Laws.Compare.{like-lt, like-cond}
use Rattle.ieee.proofs.Laws.Order.{lt→le, le-trans-float, minus-le, le→not-lt, own_val, vals→le, finite_number, not-lt→le, le-refl-float, neg-number, neg-finite, between, les→eq}
use Rattle.ieee.proofs.Laws.Rounds.{rounds-same, sub_at}
use Rattle.ieee.proofs.Laws.Exact.{rounds-exact, zero-exact}
use Rattle.numbers.specs.Range.{limited, greater, smaller}

-- ---- limits, by the code's two tests
limit-tests : (x l : Float) (a b : Bool) → lt x (neg l) ≡ a → lt l x ≡ b → cond a (neg l) (cond b l x) ≡ limited x l
unfolding limited
limit-tests x l a b h k = rw (h, k)

pub limit-low : (x l : Float) → lt x (neg l) ≡ true → neg l ≡ limited x l
limit-low x l h = limit-tests x l true (lt l x) h refl

pub limit-high : (x l : Float) → lt x (neg l) ≡ false → lt l x ≡ true → l ≡ limited x l
limit-high x l h k = limit-tests x l false true h k

pub limit-none : (x l : Float) → lt x (neg l) ≡ false → lt l x ≡ false → x ≡ limited x l
limit-none x l h k = limit-tests x l false false h k

-- ---- where a limited value lies
pub limit-in : (x l : Float) → T (number x) → T (finite l) → T (le zero₀ l) → T (le (neg l) (limited x l)) × T (le (limited x l) l)
unfolding limited
limit-in x l p q z = go (lt x (neg l)) (lt l x) (not-lt→le x (neg l) p (neg-number l (finite_number l q))) (not-lt→le l x (finite_number l q) p)
  where
    go : (a b : Bool) → (T (not a) → T (le (neg l) x)) → (T (not b) → T (le x l)) → T (le (neg l) (cond a (neg l) (cond b l x))) × T (le (cond a (neg l) (cond b l x)) l)
    go true b h k = (le-refl-float (neg l) (neg-number l (finite_number l q)), minus-le l q z)
    go false true h k = (minus-le l q z, le-refl-float l (finite_number l q))
    go false false h k = (h tt, k tt)

pub limit-finite : (x l : Float) → T (number x) → T (finite l) → T (le zero₀ l) → T (finite (limited x l))
limit-finite x l p q z = let h = limit-in x l p q z in between (neg l) (limited x l) l (neg-finite l q) q h.0 h.1

pub limit-inside : (x l : Float) → T (le (neg l) x) → T (le x l) → limited x l ≡ x
limit-inside x l h k = sym (limit-none x l (le→not-lt (neg l) x h) (le→not-lt x l k))

-- for a number x this is the original's `x.max(-l).min(l)`, zeros' signs included
pub limit-max-min : (x l : Float) → T (finite l) → T (le zero₀ l) → limited x l ≡ smaller (greater x (neg l)) l
unfolding limited
limit-max-min x l q z = go (lt x (neg l))
  where
    go : (a : Bool) → cond a (neg l) (cond (lt l x) l x) ≡ smaller (cond a (neg l) x) l
    go true = sym (ap (λ (b : Bool). cond b l (neg l)) (le→not-lt (neg l) l (minus-le l q z)))
    go false = refl

-- what lies above l does not lie below -l
high-not-low : (x l : Float) → T (finite l) → T (le zero₀ l) → lt l x ≡ true → lt x (neg l) ≡ false
high-not-low nan l q z h = unfold lt in refl
high-not-low (inf true) l q z h = absurd (below_none l q (yes h))
  where
    below_none : (l : Float) → T (finite l) → T (lt l (inf true)) → ⊥
    below_none (fin s m e) q h = unfold lt in h
    below_none nan q h = elim q [ ]
    below_none (inf _) q h = elim q [ ]
high-not-low (inf false) l q z h = top-not (neg l) (neg-finite l q)
  where
    top-not : (y : Float) → T (finite y) → lt (inf false) y ≡ false
    top-not (fin s m e) q = unfold lt in refl
    top-not nan q = elim q [ ]
    top-not (inf _) q = elim q [ ]
high-not-low (fin s m e) l q z h =
    let x = fin s m e in
    le→not-lt (neg l) x (le-trans-float (neg l) l x (minus-le l q z) (lt→le l x (yes h)))

-- and the original's `clamp_f32`, which takes the upper end first
pub limit-min-max : (x l : Float) → T (finite l) → T (le zero₀ l) → limited x l ≡ greater (smaller x l) (neg l)
unfolding limited
limit-min-max x l q z = go (lt l x) (high-not-low x l q z)
  where
    go : (b : Bool) → (b ≡ true → lt x (neg l) ≡ false) → cond (lt x (neg l)) (neg l) (cond b l x) ≡ greater (cond b l x) (neg l)
    go true h = rw (h refl, le→not-lt (neg l) l (minus-le l q z))
    go false h = refl

-- ---- of floats alike
pub alike-limit : {x y l m : Float} → Alike x y → Alike l m → Alike (limited x l) (limited y m)
unfolding limited
alike-limit p q = like-cond (like-lt p (like-neg q)) (like-neg q) (like-cond (like-lt q p) q p)

-- ---- x - x is 0 for a finite x, of either sign, and a NaN for any other
zero-eq : (z : Float) (p c : ℕ) → 0 < c → Val z p p c → T (eq z zero₀)
zero-eq z p c C v = les→eq z zero₀ v.0 tt (vals→le z zero₀ p p c 0 0 1 C (zero-lt-suc 0) v (tt, refl) (omega arith)) (vals→le zero₀ z 0 0 1 p p c (zero-lt-suc 0) C (tt, refl) v (omega arith))

pub finite-test : (f : Format) (x : Float) → eq (sub f x x) zero₀ ≡ finite x
finite-test f nan = unfold sub eq in refl
finite-test f (inf true) = unfold sub eq in refl
finite-test f (inf false) = unfold sub eq in refl
finite-test f (fin s m e) =
    let x = fin s m e in
    let c = den x * den x in
    let C = mul-pos (den_pos x) (den_pos x) in
    let p = plus x * den x + less x * den x in
    is_true (eq (sub f x x) zero₀)
    (zero-eq (sub f x x) p c C
    (rounds-exact f (sub f x x) p p c
    (λ h. subst (λ (z : ℕ). Exact f z c) (omega arith) (zero-exact f c C))
    (λ h. subst (λ (z : ℕ). Exact f z c) (omega arith) (zero-exact f c C))
    (rounds-same f (sub f x x) _ _ c p p c C C (omega arith) (sub_at f x x (plus x) (less x) (den x) (plus x) (less x) (den x) (den_pos x) (den_pos x) (own_val x tt) (own_val x tt)))))

-- what stands for a number that is not finite, zero, is finite
pub finite-or-zero : (x : Float) → T (finite (cond (finite x) x zero₀))
finite-or-zero x = by (finite x) (λ h. h)
  where
    by : (b : Bool) → (T b → T (finite x)) → T (finite (cond b x zero₀))
    by true h = h tt
    by false h = tt
