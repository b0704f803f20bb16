-- Which buffers hold whole samples, by the counts of their f32; and the length of a slice with values at its front.
-- Assumes nothing.
use mathlib.Core.Path.{◌≡◌, ◌∙◌}
use mathlib.Core.Bool.{true, false, or-true}
use mathlib.Core.List.{List}
use Prim.Native.Nat.{◌%◌, ◌≤◌}
use native.Mathlib.Omega.{arith}
use borrow.Author.Tests.{eqb-false, eq-eqb, ne_eqb}
use lib.ListN.{length, drop, length-append, length-drop}
use lib.Ieee.{Float}
use Rattle.ieee.proofs.Laws.Test.{neither-test}
use Rattle.values.specs.Buffers.{odd, odd_either, written}

module _ (xs ys : List Float) where
  pub odd-input : length xs % 2 ≡ 1 → odd_either xs ys ≡ true
  odd-input h = rw (eq-eqb (length xs % 2) 1 h)

  pub odd-output : length ys % 2 ≡ 1 → odd_either xs ys ≡ true
  odd-output h = rw (eq-eqb (length ys % 2) 1 h) (or-true (odd xs))

  pub both-even : (length xs % 2 ≡ 1 → ⊥) → (length ys % 2 ≡ 1 → ⊥) → odd_either xs ys ≡ false
  both-even h k = rw (ne_eqb (length xs % 2) 1 h, ne_eqb (length ys % 2) 1 k)

  pub even-both : odd_either xs ys ≡ false → (length xs % 2 ≡ 0) × (length ys % 2 ≡ 0)
  even-both h =
      let t = neither-test (odd xs) (odd ys) h in
      let a = eqb-false (length xs % 2) 1 t.0 in
      let b = eqb-false (length ys % 2) 1 t.1 in
      (omega arith, omega arith)

-- vs at the front of a slice that has room for them
pub written-length : (vs ys : List Float) → length vs ≤ length ys → length (written vs ys) ≡ length ys
written-length vs ys h = length-append vs (drop (length vs) ys) ∙ (let d = length-drop (length vs) ys in omega arith)
