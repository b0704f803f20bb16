-- The turns of a sample that its constellation allows (Q3) leave each detector and each lock measure as they are.
-- Assumes nothing.
use mathlib.Core.Path.{◌≡◌, refl, ◌∙◌}
use Prim.Native.Nat.{ℕ, zero, suc, ◌+◌, ◌*◌, ◌%◌}
use native.Mathlib.Omega.{arith}
use lib.Ieee.{Float, binary32}
use Rattle.ieee.specs.Alike.{Alike}
use Rattle.ieee.proofs.Laws.Algebra.{mul-negs}
use Rattle.ieee.proofs.Laws.Like.{like-refl, like-trans, like-then, like-square, likes, crossed}
use Rattle.values.specs.declared.sample.C32.{C32}
use Rattle.values.specs.Turn.{turn, turns, AlikeSample, Turned}
use Rattle.numbers.proofs.Laws.Sign.{sign-neg, alike-sign}
use Rattle.constellations.specs.declared.kinds.CostasConstellation.{CostasConstellation}
use Rattle.constellations.specs.declared.kinds.CostasConstellation.TheVariants.{Bpsk, Qpsk, Psk8}
use Rattle.constellations.specs.Octant.{decision_of}
use Rattle.detectors.specs.Detector.{detected, detected_own}
use Rattle.detectors.specs.Lock.{bpsk_measure, measured, measured_own}
use Rattle.detectors.specs.Turns.{Allowed}
use Rattle.detectors.proofs.Laws.Quad.{qpsk_measure-turn, qpsk_measure-alike}
use Rattle.detectors.proofs.Laws.Eight.{detected8-turn, detected8-alike, psk8_measure-turn, psk8_measure-alike}

-- ---- what one turn keeps, any number keeps; what two keep, any even number keeps
module _ (F : C32 → Float) where
  kept-turns : ((y : C32) → Alike (F (turn y)) (F y)) → (k : ℕ) (y : C32) → Alike (F (turns k y)) (F y)
  unfolding turns
  kept-turns h zero y = like-refl (F y)
  kept-turns h (suc k) y = like-trans (h (turns k y)) (kept-turns h k y)

  kept-halves : ((y : C32) → Alike (F (turn (turn y))) (F y)) → (k : ℕ) → k % 2 ≡ 0 → (y : C32) → Alike (F (turns k y)) (F y)
  unfolding turns
  kept-halves h zero e y = like-refl (F y)
  kept-halves h (suc zero) e y = absurd (omega arith)
  kept-halves h (suc (suc k)) e y = like-trans (h (turns k y)) (kept-halves h k (omega arith) y)

  same-turns : ((y : C32) → F (turn y) ≡ F y) → (k : ℕ) (y : C32) → F (turns k y) ≡ F y
  unfolding turns
  same-turns h zero y = refl
  same-turns h (suc k) y = h (turns k y) ∙ same-turns h k y

  same-halves : ((y : C32) → F (turn (turn y)) ≡ F y) → (k : ℕ) → k % 2 ≡ 0 → (y : C32) → F (turns k y) ≡ F y
  unfolding turns
  same-halves h zero e y = refl
  same-halves h (suc zero) e y = absurd (omega arith)
  same-halves h (suc (suc k)) e y = h (turns k y) ∙ same-halves h k (omega arith) y

-- ---- detectors
bpsk-half : (y : C32) → Alike (detected_own Bpsk (turn (turn y))) (detected_own Bpsk y)
unfolding detected
bpsk-half y = search likes

qpsk-turn : (y : C32) → Alike (detected_own Qpsk (turn y)) (detected_own Qpsk y)
unfolding detected
qpsk-turn y = search (likes, crossed, sign-neg)

detected-alike : (c : CostasConstellation) {v y : C32} → AlikeSample v y → Alike (detected_own c v) (detected_own c y)
unfolding detected decision_of
detected-alike Bpsk p = search likes
detected-alike Qpsk p = search (likes, alike-sign)
detected-alike Psk8 p = detected8-alike p

detected-turns : (c : CostasConstellation) (k m : ℕ) → Allowed c k m → (y : C32) → Alike (detected_own c (turns (k + 3 * m) y)) (detected_own c y)
unfolding decision_of
detected-turns Bpsk k m a y = kept-halves (detected_own Bpsk) bpsk-half (k + 3 * m) (omega arith) y
detected-turns Qpsk k m a y = kept-turns (detected_own Qpsk) qpsk-turn (k + 3 * m) y
detected-turns Psk8 k m a y = kept-turns (detected_own Psk8) detected8-turn (k + 3 * m) y

pub turned-detected : (c : CostasConstellation) (k m : ℕ) → Allowed c k m → (y : C32) {v : C32} → Turned (k + 3 * m) y v → Alike (detected_own c v) (detected_own c y)
turned-detected c k m a y p = like-then (detected-alike c p) (detected-turns c k m a y)

-- ---- lock measures
bpsk_measure-alike : {v y : C32} → AlikeSample v y → bpsk_measure v ≡ bpsk_measure y
unfolding bpsk_measure
bpsk_measure-alike p = rw (like-square binary32 p.real, like-square binary32 p.imag)

bpsk_measure-half : (y : C32) → bpsk_measure (turn (turn y)) ≡ bpsk_measure y
unfolding bpsk_measure
bpsk_measure-half y = rw (mul-negs binary32 y.re y.re, mul-negs binary32 y.im y.im)

measured-alike : (c : CostasConstellation) {v y : C32} → AlikeSample v y → measured_own c v ≡ measured_own c y
unfolding measured decision_of
measured-alike Bpsk p = bpsk_measure-alike p
measured-alike Qpsk p = qpsk_measure-alike p
measured-alike Psk8 p = psk8_measure-alike p

measured-turns : (c : CostasConstellation) (k m : ℕ) → Allowed c k m → (y : C32) → measured_own c (turns (k + 3 * m) y) ≡ measured_own c y
unfolding measured decision_of
measured-turns Bpsk k m a y = same-halves bpsk_measure bpsk_measure-half (k + 3 * m) (omega arith) y
measured-turns Qpsk k m a y = same-turns (measured_own Qpsk) qpsk_measure-turn (k + 3 * m) y
measured-turns Psk8 k m a y = same-turns (measured_own Psk8) psk8_measure-turn (k + 3 * m) y

pub same-measured : (c : CostasConstellation) (k m : ℕ) → Allowed c k m → (y : C32) {v : C32} → Turned (k + 3 * m) y v → measured_own c v ≡ measured_own c y
same-measured c k m a y p = measured-alike c p ∙ measured-turns c k m a y
