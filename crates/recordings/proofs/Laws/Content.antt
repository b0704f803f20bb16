-- P3: there is nothing to receive in a sample that is silent or not finite; and what a recording's samples are, seen
-- one by one, is what they are as a whole. Assumes nothing.
use Rattle.std.proofs.Common.{◌≡◌, Bool, true, false, cond, not, ◌&&◌, ◌||◌, List, [], ◌∷◌, sym, refl, ap, ◌∙◌}
use lib.Ieee.{eq}
use Rattle.ieee.specs.Notation.{zero₀}
use Rattle.ieee.proofs.Laws.Like.{like-refl}
use Rattle.ieee.proofs.Laws.Compare.{like-eq}
use Rattle.values.specs.declared.sample.C32.{C32}
use Rattle.values.specs.Samples.{silence}
use Rattle.values.specs.Turn.{AlikeSample}
use Rattle.symbol_numbers.specs.Symbol.{silent}
use Rattle.recordings.specs.declared.content.Content.{Content}
use Rattle.recordings.specs.declared.content.Content.TheVariants.{Empty, Blank, Signal}
use Rattle.recordings.specs.Content.{finite_both, carries_any, seen_by, seen, content_with, any_carries, content_of}

-- ---- a sample
both_false : (a : Bool) → (a && false) ≡ false
both_false true = refl
both_false false = refl

pub silent-blank : {x : C32} → AlikeSample x silence → carries_any x ≡ false
unfolding eq
silent-blank {x} p =
    let z = like-refl zero₀ in
    let hush : silent x ≡ true = λ j. like-eq p.real z j && like-eq p.imag z j in
    ap (λ (b : Bool). finite_both x && not b) hush ∙ both_false (finite_both x)

pub infinite-blank : (x : C32) → finite_both x ≡ false → carries_any x ≡ false
infinite-blank x h = ap (λ (b : Bool). b && not (silent x)) h

-- ---- a recording
seen_twice : (a b : Bool) (c : Content) → seen_by b (seen_by a c) ≡ seen_by (a || b) c
seen_twice true true c = refl
seen_twice true false c = refl
seen_twice false true c = refl
seen_twice false false Empty = refl
seen_twice false false Blank = refl
seen_twice false false Signal = refl

content-some : (c : Content) (x : C32) (l : List C32) → content_with c (x ∷ l) ≡ seen_by (any_carries (x ∷ l)) c
unfolding any_carries
content-some c x [] = sym (seen_nothing (carries_any x) c)
  where
    seen_nothing : (b : Bool) (c : Content) → seen_by (b || false) c ≡ seen_by b c
    seen_nothing true c = refl
    seen_nothing false c = refl
content-some c x (y ∷ l) = content-some (seen c x) y l ∙ seen_twice (carries_any x) (any_carries (y ∷ l)) c

pub content-exactly : (l : List C32) → content_with Empty l ≡ content_of l
content-exactly [] = refl
content-exactly (x ∷ l) = content-some Empty x l ∙ as_picked (any_carries (x ∷ l))
  where
    as_picked : (b : Bool) → seen_by b Empty ≡ cond b Signal Blank
    as_picked true = refl
    as_picked false = refl
