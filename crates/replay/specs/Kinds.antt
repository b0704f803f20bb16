-- Where a line is counted, by the letter that it begins with. Definitions only.
use Rattle.std.specs.Prelude.{ℕ, Bool, cond, List, ◌==◌, Option, Some, None}
use Rattle.std.specs.List.{list_any, position}
use Rattle.replay.specs.declared.kinds.Kinds.{Kinds}

abbrev pub among : ℕ → List ℕ → Bool
among letter letters = list_any (λ x. x == letter) letters

-- the place of a kind that has the letter, or else by whether it is one that has no answer
abbrev pub placed : Option ℕ → Bool → ℕ
placed (Some k) unanswered = k
placed None unanswered = cond unanswered 13 12

abbrev pub place_in : Kinds → ℕ → ℕ
place_in k letter = placed (position (λ kind. among letter kind.letters.now) k.answered.now) (among letter k.unanswered.now)
