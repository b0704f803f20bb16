-- A line that is not laid out as it must be asks nothing, and one that is asks what its words say. Assumes nothing.
use Rattle.std.specs.Prelude.{None}
use Rattle.std.proofs.Common.{◌≡◌, ℕ, Bool, true, false, List, length, get_or, eq-eqb, ne_eqb}
use Rattle.answers.specs.Line.{spaced, formed, asking, word_at, reading_of}

module _ (l : List ℕ) where
  abbrev apart : Bool
  apart = spaced (get_or l 1 0) (get_or l 18 0) (get_or l 35 0) (get_or l 52 0)

  unformed : formed l ≡ false → None ≡ reading_of l
  unfolding reading_of
  unformed h = rw h

  pub other-length : (length l ≡ 53 → ⊥) → None ≡ reading_of l
  other-length h = unformed (rw (ne_eqb (length l) 53 h))

  module _ (long : length l ≡ 53) {r : Bool} (is : r ≡ apart) where
    pub not_apart : r ≡ false → None ≡ reading_of l
    not_apart h = unformed (rw (eq-eqb (length l) 53 long, ← is) h)

    pub words-asked : r ≡ true → asking (get_or l 0 0) (word_at l 2) (word_at l 19) (word_at l 36) ≡ reading_of l
    unfolding reading_of
    words-asked h = rw (eq-eqb (length l) 53 long, ← is, h)
