-- A float that differs from itself is a NaN, and no other is; a pattern above infinity's is a NaN's, and no other is.
-- Assumes nothing.
use mathlib.Core.Path.{◌≡◌, refl, sym, ◌∙◌, subst}
use mathlib.Core.Bool.{Bool, true, false, not}
use Prim.Native.Nat.{ℕ, ◌*◌, ◌%◌, ◌<◌, ◌≤◌}
use lib.Dec.{T}
use lib.Ieee.{Float, nan, inf, fin, Format, is_nan, ne, hid, ones, top, of_bits, nan_bits}
use lib.Ieee.Bits.{nan_bits_is, nan_bits_above}
use lib.Ieee.Compare.{differs_from_itself, nan_differs}
use lib.Ieee.Scale.{finite}
use borrow.Author.Tests.{lt-ltb, le-ltb}

pub is-nan : (x : Float) → ne x x ≡ true → x ≡ nan
is-nan x h = differs_from_itself x (subst T (sym h) tt)

equals_itself : (x : Float) → (b : Bool) → ne x x ≡ b → (x ≡ nan → T (not b)) → ne x x ≡ false
equals_itself x true h k = absurd (k (is-nan x h))
equals_itself x false h k = h

pub differs-is : (x : Float) → ne x x ≡ is_nan x
unfolding is_nan
differs-is nan = nan_differs
differs-is (inf s) = equals_itself (inf s) _ refl (λ e. absurd (subst (λ (x : Float). T (not (is_nan x))) e tt))
differs-is (fin s m e) = equals_itself (fin s m e) _ refl (λ e. absurd (subst (λ (x : Float). T (not (is_nan x))) e tt))

pub finite-not-nan : (x : Float) → T (finite x) → T (not (is_nan x))
unfolding is_nan
finite-not-nan (fin s m e) p = tt
finite-not-nan nan p = elim p [ ]
finite-not-nan (inf _) p = elim p [ ]

pub not-nan : (x : Float) → ne x x ≡ false → T (not (is_nan x))
not-nan x h = subst (λ (b : Bool). T (not b)) (sym h ∙ differs-is x) tt

pub only_nan : (x : Float) → is_nan x ≡ true → nan ≡ x
only_nan x h = sym (is-nan x (differs-is x ∙ h))

pub above-nan : (f : Format) (n : ℕ) → ones f * hid f < n % top f → nan ≡ of_bits f n
above-nan f n h = only_nan (of_bits f n) (sym (nan_bits_is f n) ∙ nan_bits_above f n ∙ lt-ltb _ _ h)

pub not-above : (f : Format) (n : ℕ) → n % top f ≤ ones f * hid f → T (not (nan_bits f n))
not-above f n h = subst (λ (b : Bool). T (not b)) (sym (nan_bits_above f n ∙ le-ltb _ _ h)) tt
