-- A loop that folds a list entry by entry: one entry more, and the end. Assumes nothing.
use mathlib.Core.Path.{◌≡◌, sym, ap, ◌∙◌}
use mathlib.Core.List.{List, foldl}
use Prim.Native.Nat.{ℕ, suc, ◌+◌, ◌≤◌, ◌<◌}
use native.Mathlib.Numerals.{add-one}
use lib.ListN.{length, get_or, drop, drop_of_length-le}
use lib.Seq.{drop-cons}

-- `all` is what the fold of the whole list gives; k entries are done
module _ {A B : Type 0} (f : A → B → A) (l : List B) (d : B) (k : ℕ) {all : A} where
  pub folds-on : k < length l → {x : B} → x ≡ get_or l k d → (a : A) {b : A} → b ≡ f a x → foldl f a (drop k l) ≡ all → foldl f b (drop (k + 1) l) ≡ all
  folds-on inside at a next shows =
      (λ j. foldl f (next j) (drop (add-one k j) l))
      ∙ ap (λ (y : B). foldl f (f a y) (drop (suc k) l)) at
      ∙ ap (foldl f a) (sym (drop-cons l k d inside))
      ∙ shows

  pub folded-all : length l ≤ k → {a : A} → foldl f a (drop k l) ≡ all → a ≡ all
  folded-all past {a} shows = sym (ap (foldl f a) (drop_of_length-le l {i = k} past)) ∙ shows
