-- A quarter turn on the phase makes the pair (c, s) into (-s, c), numbers alike, and m of them repeat it. Shown of
-- any table whose entries half a turn apart are opposites. Assumes nothing.
use Rattle.std.proofs.Common.{◌≡◌, ℕ, zero, suc, ◌+◌, ◌*◌, ◌/◌, ◌%◌, ◌^◌, ◌<◌, List, get_or, subst, inl, inr, arith}
use lib.Ieee.{Float, nan}
use Rattle.ieee.specs.Alike.{Opposite}
use Rattle.ieee.proofs.Laws.Test.{order}
use Rattle.ieee.proofs.Laws.Like.{likes, like-sym, like-flip, like-of-eq}
use Rattle.values.specs.Turn.{turns, Turned}
use Rattle.values.proofs.Laws.Turn.{alike_refl, turned-add}
use Rattle.mix.specs.Oscillator.{fraction, between, quarter_before, pair_at}
use Rattle.mix.specs.Quarter.{quarters_on, sample_of, OppositeHalves}
use Rattle.mix.proofs.Laws.Fraction.{fraction-same}

module _ (table : List Float) (opposite : OppositeHalves table) where
  -- interpolated half a turn on
  between-half : (j : ℕ) (f : Float) → j < 2048 → Opposite (between table (j + 2048) f) (between table j f)
  between-half j f h =
      let a = opposite j (omega arith) in
      let b : Opposite (get_or table (j + 2048 + 1) nan) (get_or table (j + 1) nan) = subst (λ (i : ℕ). Opposite (get_or table i nan) (get_or table (j + 1) nan)) (omega arith) (opposite (j + 1) (omega arith)) in
      search likes depth 14

  -- two indices half a turn apart, whichever comes first
  between-opposite : (i j : ℕ) (f : Float) → i < 4096 → j ≡ (i + 2048) % 4096 → Opposite (between table i f) (between table j f)
  between-opposite i j f h e = elim (order i 2048) [
    | inl l ↦ like-sym (subst (λ (k : ℕ). Opposite (between table k f) (between table i f)) (omega arith) (between-half i f l))
    | inr l ↦ subst (λ (k : ℕ). Opposite (between table k f) (between table j f)) (omega arith) (between-half j f (omega arith))
  ]

  pub quarter-turn : (p : ℕ) → p < 2 ^ 32 → Turned 1 (sample_of (pair_at table p)) (sample_of (pair_at table (quarters_on 1 p)))
  unfolding turns
  quarter-turn p h =
      let p' = quarters_on 1 p in
      let idx = p / 2 ^ 20 in
      let f : fraction p' ≡ fraction p = fraction-same p' p (omega arith) in
      let at : quarter_before (p' / 2 ^ 20) ≡ idx = omega arith in
      record {
        real = like-flip (rw f (between-opposite (p' / 2 ^ 20) (quarter_before idx) (fraction p) (omega arith) (omega arith)));
        imag = like-of-eq (rw (f, at));
      }

  pub quarter-turns : (m p : ℕ) → p < 2 ^ 32 → Turned m (sample_of (pair_at table p)) (sample_of (pair_at table (quarters_on m p)))
  quarter-turns zero p h = unfold turns in rw (stays p h) (alike_refl (sample_of (pair_at table p)))
    where
      stays : (p : ℕ) → p < 2 ^ 32 → (p + 0 * 2 ^ 30) % 2 ^ 32 ≡ p
      stays p h = omega arith
  quarter-turns (suc m) p h =
      let q = quarters_on m p in
      let on : quarters_on 1 q ≡ quarters_on (suc m) p = omega arith in
      let count : suc m ≡ 1 + m = omega arith in
      subst (λ (r : ℕ). Turned (suc m) (sample_of (pair_at table p)) (sample_of (pair_at table r))) on
      (rw count (turned-add m 1 (sample_of (pair_at table p)) (sample_of (pair_at table q)) (sample_of (pair_at table (quarters_on 1 q))) (quarter-turns m p h) (quarter-turn q (omega arith))))
