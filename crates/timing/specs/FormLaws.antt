-- What a form keeps: all that the loop's proof needs to know of it; and that both forms keep it. The proofs stand
-- here, since a trait's law names what stands in specs/ alone.
use Rattle.std.specs.Prelude.{◌≡◌, ℕ, ◌*◌, ◌≤◌, List, [], ◌∷◌, ◌++◌, length, Float}
use Rattle.std.proofs.Common.{refl}
use Rattle.std.proofs.Math.Nat.{one-mul, mul-div-le, div-le_self, le_refl, le_of_eq}
use Rattle.values.proofs.Laws.Samples.{length-samples, parts_none, parts-some}
use Rattle.timing.specs.Form.{Form, onefold, twofold}

pub record FormLaws {A : Type 0} (m : Form A) : Type 0 where
  pub wide : (y : A) → length (m.floats y) ≡ m.width
  pub none : m.slice [] ≡ []
  pub some : (y : A) (l : List A) → m.slice (y ∷ l) ≡ m.floats y ++ m.slice l
  pub counts : (xs : List Float) → length (m.samples xs) ≡ m.count (length xs)
  pub room : (n : ℕ) → m.width * m.count n ≤ n
  pub fewer : (n : ℕ) → m.count n ≤ n

pub onefold_laws : FormLaws onefold
onefold_laws = record { wide = λ y. refl; none = refl; some = λ y l. refl; counts = λ xs. refl; room = λ n. le_of_eq (one-mul n); fewer = le_refl }

pub twofold_laws : FormLaws twofold
twofold_laws = record { wide = λ y. refl; none = parts_none; some = parts-some; counts = length-samples; room = λ n. mul-div-le n 2; fewer = λ n. div-le_self n 2 }
