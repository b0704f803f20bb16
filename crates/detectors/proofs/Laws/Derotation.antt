-- A quarter turn of the input turns the derotated sample, and one of the oscillator turns it back: k of the one and m
-- of the other come to k - m. Assumes nothing.
use mathlib.Core.Path.{◌≡◌, ◌∙◌, subst}
use Prim.Native.Nat.{ℕ, zero, suc, ◌+◌, ◌*◌}
use native.Mathlib.Nat.{suc-add}
use native.Mathlib.Omega.{arith}
use Rattle.ieee.proofs.Laws.Like.{like-flip, like-unnot, likes, crossed}
use Rattle.values.specs.declared.sample.C32.{C32}
use Rattle.values.specs.Turn.{turn, turns, AlikeSample, Turned}
use Rattle.values.proofs.Laws.Turn.{alike_refl, alike-trans, alike-turn, alike-turns, turns-turn, turns-add, turns-four}
use Rattle.mix.specs.declared.oscillator.Pair.{Pair}
use Rattle.mix.specs.Quarter.{sample_of}
use Rattle.detectors.specs.Detector.{derotated}

-- with the cosine and the sine as the parts of a sample
abbrev against : C32 → C32 → C32
against z w = derotated z (record { c = w.re; s = w.im })

against-alike : {v z u w : C32} → AlikeSample v z → AlikeSample u w → AlikeSample (against v u) (against z w)
unfolding derotated
against-alike p q = record { real = search likes; imag = search likes }

-- a quarter of the input is one of the output
against-turn : (z w : C32) → AlikeSample (against (turn z) w) (turn (against z w))
unfolding derotated
against-turn z w = record { real = search (like-flip, likes, crossed); imag = search (likes, crossed) }

-- a quarter of the phase is one of the output backwards
against-phase : (z w : C32) → AlikeSample (turn (against z (turn w))) (against z w)
unfolding derotated
against-phase z w = record { real = search (like-unnot, likes, crossed); imag = search (likes, crossed) }

-- that is, three forwards
against-back : (z w : C32) → AlikeSample (against z (turn w)) (turns 3 (against z w))
unfolding turns
against-back z w = let y = against z (turn w) in subst (λ (x : C32). AlikeSample x (turns 3 (against z w))) (turns-turn 3 y ∙ turns-four y) (alike-turns 3 (against-phase z w))

against-turns : (k m : ℕ) (z w : C32) → AlikeSample (against (turns k z) (turns m w)) (turns (k + 3 * m) (against z w))
unfolding turns
against-turns zero zero z w = alike_refl _
against-turns zero (suc m) z w =
    let e : 0 + 3 * suc m ≡ 3 + (0 + 3 * m) = omega arith in
    rw (e, turns-add 3 (0 + 3 * m)) (alike-trans (against-back z (turns m w)) (alike-turns 3 (against-turns zero m z w)))
against-turns (suc k) m z w = rw suc-add (alike-trans (against-turn (turns k z) (turns m w)) (alike-turn (against-turns k m z w)))

pub turned-derotated : (k m : ℕ) (z : C32) (q : Pair) {v : C32} {r : Pair} → Turned k z v → Turned m (sample_of q) (sample_of r) → Turned (k + 3 * m) (derotated z q) (derotated v r)
turned-derotated k m z q p o = alike-trans (against-alike p o) (against-turns k m z (sample_of q))
