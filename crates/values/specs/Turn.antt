-- Quarter turns of a sample and of a list, and what it means that one is the other turned k times. Definitions only.
use Rattle.std.specs.Prelude.{ℕ, zero, suc, List, map}
use Rattle.std.specs.Float.Ieee.{neg}
use Rattle.ieee.specs.Alike.{Alike}
use Rattle.values.specs.declared.sample.C32.{C32}
use Rattle.lists.specs.Each.{Each}

-- Q1: one quarter turn, and k of them
abbrev pub turn : C32 → C32
turn z = record { re = neg z.im; im = z.re }

unfoldable pub turns : ℕ → C32 → C32
turns zero z = z
turns (suc k) z = turn (turns k z)

-- each sample of a list, turned k times
abbrev pub turns_all : ℕ → List C32 → List C32
turns_all k l = map (turns k) l

-- N10: alike in each part
pub record AlikeSample (v z : C32) : Type 0 where
  pub real : Alike v.re z.re
  pub imag : Alike v.im z.im

-- Q8: v is z turned k times, as numbers (N10)
abbrev pub Turned : ℕ → C32 → C32 → Type 0
Turned k z v = AlikeSample v (turns k z)

-- the second list is the first turned k times, sample by sample
abbrev pub AllTurned : ℕ → List C32 → List C32 → Type 0
AllTurned k l m = Each (Turned k) l m
