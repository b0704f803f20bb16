-- What a test's answer says, and what the order of two numbers says. Assumes nothing.
use mathlib.Core.Path.{◌≡◌, refl, sym, ap, ◌∙◌, subst}
use mathlib.Core.Logic.{◌⊎◌, inl, inr}
use Prim.Native.Nat.{ℕ, ◌≤◌, ◌<◌, compare, Ordering}
use mathlib.Core.Bool.{Bool, true, false, not, ◌&&◌, ◌||◌, cond}
use lib.Arith.{lt_of_le-ne}
use lib.Dec.{T, ltb, eqb, is_le, compare_is_eq, ltb→lt, nltb→le, leb→le, nleb→lt, eqb→eq, eqb_refl}

pub yes : {b : Bool} → b ≡ true → T b
yes e = subst T (sym e) tt

pub no : {b : Bool} → b ≡ false → T (not b)
no e = subst (λ (t : Bool). T (not t)) (sym e) tt

-- a test that is turned round
pub not-false : (b : Bool) → not b ≡ false → b ≡ true
not-false true e = refl
not-false false e = sym e

-- two tests that imply each other are the same
pub same_test : (a b : Bool) → (T a → T b) → (T b → T a) → a ≡ b
same_test true true p q = refl
same_test true false p q = absurd (p tt)
same_test false true p q = absurd (q tt)
same_test false false p q = refl

-- a test that fails, and one that holds
pub both-tests : (a b : Bool) → (not a && b) ≡ true → (a ≡ false) × (b ≡ true)
both-tests false b h = (refl, h)
both-tests true b h = absurd (yes h)

-- two tests that fail
pub neither-test : (a b : Bool) → (a || b) ≡ false → (a ≡ false) × (b ≡ false)
neither-test false b h = (refl, h)
neither-test true b h = absurd (subst T h tt)

-- v is what `a && b` gives: b where a holds, and a where it fails
pub and-held : {a b v : Bool} → a ≡ true → v ≡ b → v ≡ (a && b)
and-held {a} {b} e f = f ∙ ap (λ (t : Bool). t && b) (sym e)

pub and-failed : {a v : Bool} (b : Bool) → a ≡ false → v ≡ a → v ≡ (a && b)
and-failed {a} b e f = f ∙ e ∙ ap (λ (t : Bool). t && b) (sym e)

-- v is what `a || b` gives: a where it holds, and b where it fails
pub or-held : {a v : Bool} (b : Bool) → a ≡ true → v ≡ a → v ≡ (a || b)
or-held b e f = f ∙ e ∙ ap (λ (t : Bool). t || b) (sym e)

pub or-failed : {a b v : Bool} → a ≡ false → v ≡ b → v ≡ (a || b)
or-failed {b = b} e f = f ∙ ap (λ (t : Bool). t || b) (sym e)

-- a choice by the same test, between related values
pub cond-related : {A B : Type 0} (R : A → B → Type 0) {p q : Bool} {x y : A} {v w : B} → p ≡ q → R x v → R y w → R (cond p x y) (cond q v w)
cond-related R {p = true} e h k = rw (← e) h
cond-related R {p = false} e h k = rw (← e) k

-- one of two
pub or_split : (a b : Bool) → T (a || b) → T a ⊎ T b
or_split true b t = inl tt
or_split false b t = inr t

pub or_left : (a b : Bool) → T a → T (a || b)
or_left true b t = tt
or_left false b t = absurd t

pub or_right : (a b : Bool) → T b → T (a || b)
or_right true b t = tt
or_right false b t = t

pub order : (a b : ℕ) → (a < b) ⊎ (b ≤ a)
order a b = go (ltb a b) (ltb→lt a b) (nltb→le a b)
  where
    go : (t : Bool) → (T t → a < b) → (T (not t) → b ≤ a) → (a < b) ⊎ (b ≤ a)
    go true h k = inl (h tt)
    go false h k = inr (k tt)

-- ---- what `compare` says
abbrev pub Compared : Ordering → ℕ → ℕ → Type 0
Compared Ordering.lt a b = a < b
Compared Ordering.eq a b = a ≡ b
Compared Ordering.gt a b = b < a

pub compared : (a b : ℕ) → Compared (compare a b) a b
compared a b = go (compare a b) (leb→le a b) (nleb→lt a b) (eqb→eq a b) (λ (e : a ≡ b). subst (λ (x : ℕ). T (eqb a x)) e (eqb_refl a))
  where
    go : (o : Ordering) → (T (is_le o) → a ≤ b) → (T (not (is_le o)) → b < a) → (T (compare_is_eq o) → a ≡ b) → (a ≡ b → T (compare_is_eq o)) → Compared o a b
    go Ordering.lt h k e n = lt_of_le-ne (h tt) n
    go Ordering.eq h k e n = e tt
    go Ordering.gt h k e n = k tt
