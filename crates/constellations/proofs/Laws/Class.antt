-- A float lies below zero, at it, above it, or nowhere (a NaN), and its comparisons with zero depend on that alone.
-- Assumes nothing.
use mathlib.Core.Path.{◌≡◌, refl, sym, ap, ◌∙◌}
use Prim.Native.Nat.{zero, suc}
use mathlib.Core.Bool.{Bool, true, false, ◌||◌}
use lib.Dec.{leb-zero, leb-suc-suc, eqb-suc-zero}
use lib.IntN.{pos}
use lib.Ieee.{Float, nan, inf, fin, neg, lt, le, eq}
use lib.Ieee.Positive.{above}
use Rattle.ieee.specs.Alike.{plain, signed, Alike}
use Rattle.ieee.specs.Notation.{zero₀}
use Rattle.ieee.proofs.Laws.Like.{like-zero}
use Rattle.ieee.proofs.Laws.Compare.{is_zero, zero-lt, lt-zero, eq-zero, eq_swap}

pub data Class : Type 0 where
  low nil high none : Class

unfoldable pub class : Float → Class
class nan = none
class (inf true) = low
class (inf false) = high
class (fin s zero e) = nil
class (fin true (suc m) e) = low
class (fin false (suc m) e) = high

abbrev pub flip : Class → Class
flip low = high
flip nil = nil
flip high = low
flip none = none

abbrev pub is_high : Class → Bool
is_high low = false
is_high nil = false
is_high high = true
is_high none = false

abbrev pub is_nil : Class → Bool
is_nil low = false
is_nil nil = true
is_nil high = false
is_nil none = false

-- ---- of an opposite, and of numbers alike
pub class-neg : (x : Float) → class (neg x) ≡ flip (class x)
unfolding class neg
class-neg nan = refl
class-neg (inf true) = refl
class-neg (inf false) = refl
class-neg (fin true zero e) = refl
class-neg (fin false zero e) = refl
class-neg (fin true (suc m) e) = refl
class-neg (fin false (suc m) e) = refl

class-plain : (x : Float) → class (plain x) ≡ class x
unfolding class plain
class-plain nan = refl
class-plain (inf s) = refl
class-plain (fin s zero e) = refl
class-plain (fin true (suc m) e) = refl
class-plain (fin false (suc m) e) = refl

pub class-alike : {x y : Float} → Alike x y → class x ≡ class y
unfolding signed
class-alike {x} {y} p = sym (class-plain x) ∙ ap class p.same ∙ class-plain y

-- ---- the four comparisons with zero
above-class : (x : Float) → above x ≡ is_high (class x)
unfolding class
above-class nan = refl
above-class (inf true) = refl
above-class (inf false) = refl
above-class (fin true zero e) = refl
above-class (fin false zero e) = refl
above-class (fin true (suc m) e) = refl
above-class (fin false (suc m) e) = leb-suc-suc zero m ∙ leb-zero m

zero-class : (x : Float) → is_zero x ≡ is_nil (class x)
unfolding class is_zero
zero-class nan = refl
zero-class (inf true) = refl
zero-class (inf false) = refl
zero-class (fin s zero e) = refl
zero-class (fin true (suc m) e) = eqb-suc-zero m
zero-class (fin false (suc m) e) = eqb-suc-zero m

pub above_zero : (x : Float) → lt zero₀ x ≡ is_high (class x)
above_zero x = zero-lt false (pos 0) x ∙ above-class x

pub below-zero : (x : Float) → lt x zero₀ ≡ is_high (flip (class x))
below-zero x = lt-zero false (pos 0) x ∙ above-class (neg x) ∙ ap is_high (class-neg x)

at_zero : (x : Float) → eq zero₀ x ≡ is_nil (class x)
at_zero x = eq-zero false (pos 0) x ∙ zero-class x

pub on-zero : (x : Float) → eq x zero₀ ≡ is_nil (class x)
on-zero x = eq_swap x zero₀ ∙ at_zero x

pub from_zero : (x : Float) → le zero₀ x ≡ (is_high (class x) || is_nil (class x))
unfolding le
from_zero x = λ j. above_zero x j || at_zero x j

pub to-zero : (x : Float) → le x zero₀ ≡ (is_high (flip (class x)) || is_nil (class x))
unfolding le
to-zero x = λ j. below-zero x j || on-zero x j

-- ---- what lies at zero is one, and what lies nowhere is a NaN
pub nil-alike : (x : Float) → class x ≡ nil → Alike x zero₀
unfolding class
nil-alike nan h = record { same = cc }
nil-alike (inf true) h = record { same = cc }
nil-alike (inf false) h = record { same = cc }
nil-alike (fin s zero e) h = like-zero false s false e (pos 0)
nil-alike (fin true (suc m) e) h = record { same = cc }
nil-alike (fin false (suc m) e) h = record { same = cc }

pub none-nan : (x : Float) → class x ≡ none → x ≡ nan
unfolding class
none-nan nan h = refl
none-nan (inf true) h = cc
none-nan (inf false) h = cc
none-nan (fin s zero e) h = cc
none-nan (fin true (suc m) e) h = cc
none-nan (fin false (suc m) e) h = cc
