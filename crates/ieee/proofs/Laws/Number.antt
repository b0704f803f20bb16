-- Sums and products of finite values are numbers: what overflows is an infinity, never a NaN. Assumes nothing.
use mathlib.Core.Path.{sym, subst}
use mathlib.Core.Bool.{true, false, not}
use Prim.Native.Nat.{ℕ, ◌-◌}
use lib.Dec.{T}
use lib.Ieee.{Float, nan, inf, fin, Format, round, add, mul, is_nan}
use lib.Ieee.Scale.{finite}
use Rattle.ieee.specs.Fraction.{number}
use Rattle.ieee.specs.Rounding.{Rounds, high, deep}
use Rattle.ieee.proofs.Laws.Round.{round_number}
use Rattle.ieee.proofs.Laws.Rounds.{add_rounds, mul-rounds}

pub not-nan→number : (x : Float) → T (not (is_nan x)) → T (number x)
unfolding is_nan
not-nan→number nan h = h
not-nan→number (inf s) h = tt
not-nan→number (fin s m e) h = tt

pub rounds-number : (f : Format) (z : Float) (p n c : ℕ) → Rounds f z p n c → T (number z)
rounds-number f z p n c (high a e) = subst (λ (x : Float). T (number x)) (sym e) (not-nan→number (round f false (p - n) c) (round_number f false (p - n) c))
rounds-number f z p n c (deep a e) = subst (λ (x : Float). T (number x)) (sym e) (not-nan→number (round f true (n - p) c) (round_number f true (n - p) c))

pub mul-number : (f : Format) (x y : Float) → T (finite x) → T (finite y) → T (number (mul f x y))
mul-number f x y p q = rounds-number f (mul f x y) _ _ _ (mul-rounds f x y p q)

-- one of the two may be infinite
pub add-number : (f : Format) (x y : Float) → T (finite x) → T (number y) → T (number (add f x y))
add-number f (fin s m e) (inf t) p q = unfold add in tt
add-number f (fin s m e) (fin t n d) p q = rounds-number f (add f (fin s m e) (fin t n d)) _ _ _ (add_rounds f (fin s m e) (fin t n d) tt tt)
add-number f nan y p q = elim p [ ]
add-number f (inf _) y p q = elim p [ ]
add-number f (fin s m e) nan p q = elim q [ ]
