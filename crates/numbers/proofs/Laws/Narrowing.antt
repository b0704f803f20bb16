-- Narrowing to an f32, of values: it depends only on the number, keeps the sign and the order, and changes nothing
-- that an f32 holds. Assumes nothing.
use mathlib.Core.Path.{◌≡◌, refl, sym, ap, ◌∙◌, subst}
use Prim.Native.Nat.{ℕ, zero, suc, ◌*◌, ◌<◌}
use native.Mathlib.Nat.{zero-mul}
use native.Mathlib.Omega.{arith}
use mathlib.Core.Bool.{Bool, true, false, not}
use lib.Dec.{T}
use lib.IntN.{ℤ, pos}
use lib.Ieee.{Float, nan, inf, fin, binary32, up, down, round, neg, le, fits, is_nan}
use lib.Ieee.Fits.{down_pos, round-fits, nan-fits, inf-fits}
use lib.Ieee.Exact.{HasValue}
use lib.Ieee.Scale.{finite, round_same}
use lib.Ieee.Positive.{den, den_pos}
use Rattle.ieee.specs.Notation.{zero₀, one₀}
use Rattle.ieee.specs.Alike.{plain, signed, with_sign, Like}
use Rattle.ieee.specs.Fraction.{plus, less, Span}
use Rattle.ieee.specs.Rounding.{Rounds}
use Rattle.ieee.proofs.Laws.Order.{le→cross, between}
use Rattle.ieee.proofs.Laws.Span.{span-finite, low-finite}
use Rattle.ieee.proofs.Laws.Exact.{round-own}
use Rattle.ieee.proofs.Laws.Round.{round-neg, round-zero, round_number}
use Rattle.ieee.proofs.Laws.Rounds.{at_high, at-deep, rounds-mono}
use Rattle.numbers.specs.Narrowing.{narrowed}

-- ---- only the value counts
pub narrow-value : (x : Float) (s : Bool) (a c : ℕ) → 0 < c → HasValue x s a c → narrowed x ≡ round binary32 s a c
unfolding narrowed
narrow-value (fin t m e) s a c C h = ap (λ (z : Bool). round binary32 z (m * up e) (down e)) h.0 ∙ round_same binary32 s (m * up e) (down e) a c (down_pos e) C h.1
narrow-value nan s a c C h = elim h [ ]
narrow-value (inf _) s a c C h = elim h [ ]

pub narrow-fits : (x : Float) → T (fits binary32 (narrowed x))
unfolding narrowed
narrow-fits nan = nan-fits binary32
narrow-fits (inf s) = inf-fits binary32 s
narrow-fits (fin s m e) = round-fits binary32 s (m * up e) (down e)

-- an f32 is its own narrowing
pub narrow_exact : (x : Float) → T (fits binary32 x) → narrowed x ≡ x
unfolding narrowed
narrow_exact nan t = refl
narrow_exact (inf s) t = refl
narrow_exact (fin s m e) t = round-own binary32 s m e t

-- ---- the sign
pub narrow-neg : (x : Float) → narrowed (neg x) ≡ neg (narrowed x)
unfolding narrowed neg
narrow-neg nan = refl
narrow-neg (inf s) = refl
narrow-neg (fin s m e) = round-neg binary32 s (m * up e) (down e)

pub narrow-with-sign : (k : ℕ) (x : Float) → with_sign k (narrowed x) ≡ narrowed (with_sign k x)
narrow-with-sign zero x = refl
narrow-with-sign (suc k) x = sym (narrow-neg x)

narrow_signed : (s : Bool) (x : Float) → narrowed (signed s x) ≡ signed s (narrowed x)
unfolding signed
narrow_signed true x = narrow-neg x
narrow_signed false x = refl

narrow-plain : (x : Float) → plain (narrowed (plain x)) ≡ plain (narrowed x)
unfolding plain narrowed
narrow-plain nan = refl
narrow-plain (inf s) = refl
narrow-plain (fin s zero e) = ap plain (zero_is false (pos zero)) ∙ sym (ap plain (zero_is s e))
  where
    zero_is : (s : Bool) (e : ℤ) → round binary32 s (zero * up e) (down e) ≡ fin s zero (pos zero)
    zero_is s e = ap (λ (z : ℕ). round binary32 s z (down e)) (zero-mul (up e)) ∙ round-zero binary32 s (down e) (down_pos e)
narrow-plain (fin s (suc m) e) = refl

pub like-narrow : {s : Bool} {x y : Float} → Like s x y → Like s (narrowed x) (narrowed y)
like-narrow {s} {x} {y} p = record { same = cc (narrow-plain x, p.same, narrow-plain (signed s y), narrow_signed s y) }

pub narrow-number : (x : Float) → T (not (is_nan x)) → T (not (is_nan (narrowed x)))
unfolding narrowed is_nan
narrow-number nan h = h
narrow-number (inf s) h = tt
narrow-number (fin s m e) h = round_number binary32 s (m * up e) (down e)

-- ---- the order
pub narrow-rounds : (x : Float) → T (finite x) → Rounds binary32 (narrowed x) (plus x) (less x) (den x)
unfolding narrowed
narrow-rounds (fin false m e) p = at_high binary32 (m * up e) 0 (down e) (m * up e) (omega arith)
narrow-rounds (fin true m e) p = at-deep binary32 0 (m * up e) (down e) (m * up e) (omega arith)
narrow-rounds nan p = elim p [ ]
narrow-rounds (inf _) p = elim p [ ]

pub narrow-mono : (x y : Float) → T (finite x) → T (finite y) → T (le x y) → T (le (narrowed x) (narrowed y))
narrow-mono x y p q h = rounds-mono binary32 (narrowed x) (narrowed y) (plus x) (less x) (den x) (plus y) (less y) (den y) (den_pos x) (den_pos y) (narrow-rounds x p) (narrow-rounds y q) (le→cross x y p q h)

-- what lies in 0 to 1 stays there; the upper end may be reached
pub narrow-unit : (x : Float) → T (le zero₀ x) → T (le x one₀) → T (le zero₀ (narrowed x)) × T (le (narrowed x) one₀)
unfolding fits
narrow-unit x h k =
    let p = between zero₀ x one₀ tt tt h k in (
      subst (λ (z : Float). T (le z (narrowed x))) (narrow_exact zero₀ tt) (narrow-mono zero₀ x tt p h),
      subst (λ (z : Float). T (le (narrowed x) z)) (narrow_exact one₀ tt) (narrow-mono x one₀ p tt k),
    )

-- what lies in a span lies in the narrowed one
pub narrow-span : {lo hi x : Float} → Span lo hi x → T (finite (narrowed hi)) → Span (narrowed lo) (narrowed hi) (narrowed x)
unfolding fits
narrow-span {lo} {hi} {x} a t = record {
  top = t;
  from = subst (λ (z : Float). T (le z (narrowed lo))) (narrow_exact zero₀ tt) (narrow-mono zero₀ lo tt (low-finite a) a.from);
  low = narrow-mono lo x (low-finite a) (span-finite a) a.low;
  high = narrow-mono x hi (span-finite a) a.top a.high;
}
