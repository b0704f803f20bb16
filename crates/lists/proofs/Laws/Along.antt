-- A test of two lists, walked side by side, and what it says of the entries at one place;
-- and the entries of a list that is thinned or reversed. Holds for any lists. Assumes nothing.
use mathlib.Core.Path.{◌≡◌, refl, ap, ◌∙◌}
use mathlib.Core.Bool.{Bool, true, ◌&&◌}
use mathlib.Core.List.{List, [], ◌∷◌, reverse}
use Prim.Native.Nat.{ℕ, zero, suc, ◌+◌, ◌-◌, ◌<◌, ◌≤◌}
use native.Mathlib.Nat.{add-zero, add-suc, suc-add, le_of_suc-le-suc, not-suc-le-zero}
use native.Mathlib.Omega.{arith}
use lib.Dec.{T}
use lib.ListN.{length, get_or}
use lib.Ieee.Fits.{and_l, and_r}
use Rattle.std.proofs.lemmas.List.{get_or-reverse}

module _ {A : Type 0} where
  -- ---- the walks
  -- the test f passes at each place
  unfoldable pub each : (A → Bool) → List A → Bool
  each f [] = true
  each f (x ∷ xs) = f x && each f xs

  pub each_at : (f : A → Bool) (d : A) (xs : List A) → T (each f xs) → (k : ℕ) → k < length xs → T (f (get_or xs k d))
  unfolding each
  each_at f d [] t k h = absurd (not-suc-le-zero h)
  each_at f d (x ∷ xs) t zero h = and_l (f x) (each f xs) t
  each_at f d (x ∷ xs) t (suc k) h = each_at f d xs (and_r (f x) (each f xs) t) k (le_of_suc-le-suc h)

  -- the test f passes at each place that both lists have
  unfoldable pub along : (A → A → Bool) → List A → List A → Bool
  along f [] ys = true
  along f (x ∷ xs) [] = true
  along f (x ∷ xs) (y ∷ ys) = f x y && along f xs ys

  pub along-at : (f : A → A → Bool) (d : A) (xs ys : List A) → T (along f xs ys) → (k : ℕ) → k < length xs → k < length ys → T (f (get_or xs k d) (get_or ys k d))
  unfolding along
  along-at f d [] ys t k h h' = absurd (not-suc-le-zero h)
  along-at f d (x ∷ xs) [] t k h h' = absurd (not-suc-le-zero h')
  along-at f d (x ∷ xs) (y ∷ ys) t zero h h' = and_l (f x y) (along f xs ys) t
  along-at f d (x ∷ xs) (y ∷ ys) t (suc k) h h' = along-at f d xs ys (and_r (f x y) (along f xs ys) t) k (le_of_suc-le-suc h) (le_of_suc-le-suc h')

  -- the test f passes at each place, counted from j on
  unfoldable pub counted : (ℕ → A → Bool) → ℕ → List A → Bool
  counted f j [] = true
  counted f j (x ∷ xs) = f j x && counted f (suc j) xs

  pub counted-at : (f : ℕ → A → Bool) (d : A) (j : ℕ) (xs : List A) → T (counted f j xs) → (k : ℕ) → k < length xs → T (f (j + k) (get_or xs k d))
  unfolding counted
  counted-at f d j [] t k h = absurd (not-suc-le-zero h)
  counted-at f d j (x ∷ xs) t zero h = rw add-zero (and_l (f j x) (counted f (suc j) xs) t)
  counted-at f d j (x ∷ xs) t (suc k) h = rw (add-suc j k, ← suc-add j k) (counted-at f d (suc j) xs (and_r (f j x) (counted f (suc j) xs) t) k (le_of_suc-le-suc h))

  -- ---- every second entry, the first one among them
  unfoldable pub thinned : List A → List A
  thinned [] = []
  thinned (x ∷ []) = x ∷ []
  thinned (x ∷ y ∷ l) = x ∷ thinned l

  pub get_or-thinned : (l : List A) (k : ℕ) (d : A) → get_or (thinned l) k d ≡ get_or l (k + k) d
  unfolding thinned
  get_or-thinned [] k d = refl
  get_or-thinned (x ∷ []) zero d = refl
  get_or-thinned (x ∷ []) (suc k) d = rw (suc-add k (suc k))
  get_or-thinned (x ∷ y ∷ l) zero d = refl
  get_or-thinned (x ∷ y ∷ l) (suc k) d = rw (suc-add k (suc k), add-suc k k) (get_or-thinned l k d)

  pub length-thinned : (l : List A) → length l ≤ length (thinned l) + length (thinned l)
  unfolding thinned
  length-thinned [] = omega arith
  length-thinned (x ∷ []) = omega arith
  length-thinned (x ∷ y ∷ l) = omega (arith, length-thinned l)

  -- ---- an entry of a reversed list
  pub get_or_reverse : (l : List A) (i j : ℕ) (d : A) → suc (i + j) ≡ length l → get_or (reverse l) i d ≡ get_or l j d
  get_or_reverse l i j d e = let f : length l - 1 - i ≡ j = omega arith in get_or-reverse l i d (omega arith) ∙ ap (λ (n : ℕ). get_or l n d) f
