-- Two lists related entry by entry. Definitions only.
use Rattle.std.specs.Prelude.{List, [], ◌∷◌}

pub data Each {A B : Type 0} (R : A → B → Type 0) : List A → List B → Type 0 where
  none : Each R [] []
  more : {a : A} {b : B} {l : List A} {m : List B} → R a b → Each R l m → Each R (a ∷ l) (b ∷ m)
