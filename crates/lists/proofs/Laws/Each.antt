-- Lists related entry by entry: their lengths, an entry, another relation that follows. Assumes nothing.
use mathlib.Core.Path.{◌≡◌, refl, ap}
use mathlib.Core.List.{List}
use Prim.Native.Nat.{ℕ, zero, suc}
use lib.ListN.{length, get_or}
use Rattle.lists.specs.Each.{Each, none, more}

module _ {A B : Type 0} {R : A → B → Type 0} where
  pub each-length : {l : List A} {m : List B} → Each R l m → length l ≡ length m
  each-length none = refl
  each-length (more r rs) = ap suc (each-length rs)

  pub each-get_or : {l : List A} {m : List B} {a : A} {b : B} (i : ℕ) → Each R l m → R a b → R (get_or l i a) (get_or m i b)
  each-get_or i none d = d
  each-get_or zero (more r rs) d = r
  each-get_or (suc i) (more r rs) d = each-get_or i rs d

pub each-implies : {A B : Type 0} {R S : A → B → Type 0} → ((a : A) (b : B) → R a b → S a b) → {l : List A} {m : List B} → Each R l m → Each S l m
each-implies f none = none
each-implies f (more {a} {b} r rs) = more (f a b r) (each-implies f rs)
