-- A list of calls: it has an outcome for each call, on the state that the calls before it left;
-- and what one call keeps of two states, a list keeps. Assumes nothing.
use mathlib.Core.Path.{◌≡◌, refl, ap}
use mathlib.Core.List.{List, [], ◌∷◌, ◌++◌}
use Prim.Native.Nat.{suc}
use lib.ListN.{length}
use Rattle.lists.specs.Each.{Each, none, more}
use Rattle.values.specs.Calls.{outcomes_by, after_by}

module _ {S C O : Type 0} (call : S → C → O) (left : O → S) where
  pub outcomes-length : (s : S) (cs : List C) → length (outcomes_by call left s cs) ≡ length cs
  unfolding outcomes_by
  outcomes-length s [] = refl
  outcomes-length s (c ∷ cs) = ap suc (outcomes-length (left (call s c)) cs)

  pub outcomes-append : (s : S) (cs ds : List C) → outcomes_by call left s (cs ++ ds) ≡ outcomes_by call left s cs ++ outcomes_by call left (after_by call left s cs) ds
  unfolding outcomes_by after_by
  outcomes-append s [] ds = refl
  outcomes-append s (c ∷ cs) ds = let r = call s c in ap (λ (l : List O). r ∷ l) (outcomes-append (left r) cs ds)

  -- ---- two states that R relates, and calls on them that Q relates
  module _ {R : S → S → Type 0} {Q : C → C → Type 0} {P : O → O → Type 0} (keeps : (s t : S) (c d : C) → R s t → Q c d → P (call s c) (call t d) × R (left (call s c)) (left (call t d))) where
    pub lists-keep : {s t : S} {cs ds : List C} → R s t → Each Q cs ds → Each P (outcomes_by call left s cs) (outcomes_by call left t ds) × R (after_by call left s cs) (after_by call left t ds)
    unfolding outcomes_by after_by
    lists-keep h none = (none, h)
    lists-keep {s} {t} h (more {a = c} {b = d} q qs) = let o = keeps s t c d h q in let r = lists-keep {s = left (call s c)} o.1 qs in (more o.0 r.0, r.1)
