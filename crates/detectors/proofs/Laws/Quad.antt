-- A quarter turn leaves QPSK's lock measure as it is: ((4 × a) × b - g × g) / (t × t) is the same with the squares a
-- and b exchanged. Below 2^126 both 4 × a and 4 × b are exact; from there up the measure is NaN either way round.
-- Assumes nothing.
use mathlib.Core.Path.{◌≡◌, refl, sym, ap, ◌∙◌}
use mathlib.Core.Logic.{◌⊎◌, inl, inr}
use Prim.Native.Nat.{ℕ, ◌+◌, ◌*◌, ◌^◌, ◌<◌}
use native.Mathlib.Omega.{arith}
use mathlib.Core.Bool.{Bool, true, false, not}
use lib.Dec.{T}
use lib.IntN.{pos}
use lib.Ieee.{Float, nan, inf, fin, binary32, round, neg, add, sub, mul, le, lt, fits}
use lib.Ieee.Fits.{mul-fits}
use lib.Ieee.Scale.{finite}
use lib.Ieee.Positive.{den}
use Rattle.ieee.specs.Notation.{zero₀, one₀, ◌⊕◌, ◌⊖◌, ◌⊗◌, four₀, ◌⊘◌}
use Rattle.ieee.specs.Fraction.{plus, less}
use Rattle.ieee.proofs.Laws.Algebra.{add-swap, mul-negs}
use Rattle.ieee.proofs.Laws.Order.{finite_number, not-le→lt, lt→le, lt→cross, less_none}
use Rattle.ieee.proofs.Laws.Like.{like-refl, like-square, like-sub-x}
use Rattle.ieee.specs.Bounds.{Reaches}
use Rattle.ieee.proofs.Laws.NotFinite.{finite-difference, finite-product, quotient-nan, sum-at-least, difference-at-least, product-at-least, square-at-least, at-least-inf}
use Rattle.ieee.proofs.Laws.Scaled.{scaled-swap}
use Rattle.values.specs.declared.sample.C32.{C32}
use Rattle.values.specs.Turn.{turn, AlikeSample}
use Rattle.detectors.specs.Lock.{square, quad, qpsk_measure}

-- (4 × a) × b - g × g
abbrev upper : Float → Float → Float
upper a b = four₀ ⊗ a ⊗ b ⊖ square (a ⊖ b)

-- g × g is the same either way round
gap : (a b : Float) → square (b ⊖ a) ≡ square (a ⊖ b)
gap a b = like-square binary32 (like-sub-x binary32 {s = true} (like-refl b) (like-refl a))

-- ---- one of them is 2^126 or more
abbrev large : Float
large = fin false 1 (pos 126)

four-large : four₀ ⊗ large ≡ inf false
unfolding mul round
four-large = refl

large-squared : large ⊗ large ≡ inf false
unfolding mul round
large-squared = refl

large-and-nothing : large ⊕ zero₀ ≡ large
unfolding add round
large-and-nothing = refl

large-less-one : large ⊖ one₀ ≡ large
unfolding sub add neg round
large-less-one = refl

four-times-one : four₀ ⊗ one₀ ≡ four₀
unfolding mul round
four-times-one = refl

square-overflows : (x : Float) → Reaches large x → T (finite (square x)) → ⊥
square-overflows x h = at-least-inf (square x) (rw large-squared at (product-at-least binary32 1 1 (pos 126) (pos 126) x x h h))

four-itself : Reaches four₀ four₀
unfolding le
four-itself h = tt

module _ (a b : Float) (A : Reaches large a) (B : Reaches zero₀ b) where
  -- t × t overflows
  total : T (finite (square (a ⊕ b))) → ⊥
  total = square-overflows (a ⊕ b) (rw large-and-nothing at (sum-at-least binary32 large zero₀ a b tt tt A B))

  -- and 4 × a
  upper_first : T (finite (upper a b)) → ⊥
  upper_first h =
      let k = finite-difference binary32 (four₀ ⊗ a ⊗ b) (square (a ⊖ b)) h in
      let p = finite-product binary32 (four₀ ⊗ a) b k.0 in
      at-least-inf (four₀ ⊗ a) (rw four-large at (product-at-least binary32 1 1 (pos 2) (pos 126) four₀ a four-itself A)) p.0

  large-first : quad a b ≡ nan
  unfolding quad
  large-first = quotient-nan binary32 (upper a b) (square (a ⊕ b)) upper_first total

  -- the other way round (4 × b) × a does for b from 1 up, and g × g for b up to 1
  upper-second : T (finite (upper b a)) → ⊥
  upper-second h =
      let k = finite-difference binary32 (four₀ ⊗ b ⊗ a) (square (b ⊖ a)) h in
      let p = finite-product binary32 four₀ b (finite-product binary32 (four₀ ⊗ b) a k.0).0 in
      go k.0 k.1 (le one₀ b) (λ t. t) (λ t. lt→le b one₀ (not-le→lt one₀ b tt (finite_number b p.1) t))
    where
      go : T (finite (four₀ ⊗ b ⊗ a)) → T (finite (square (b ⊖ a))) → (t : Bool) → (T t → T (le one₀ b)) → (T (not t) → T (le b one₀)) → ⊥
      go h k true u w =
          let r : Reaches four₀ (four₀ ⊗ b) = rw four-times-one at (product-at-least binary32 1 1 (pos 2) (pos 0) four₀ b four-itself (λ q. u tt)) in
          at-least-inf (four₀ ⊗ b ⊗ a) (rw four-large at (product-at-least binary32 1 1 (pos 2) (pos 126) (four₀ ⊗ b) a r A)) h
      go h k false u w = square-overflows (a ⊖ b) (rw large-less-one at (difference-at-least binary32 large one₀ a b tt tt A (w tt))) (rw gap at k)

  large-second : quad b a ≡ nan
  unfolding quad
  large-second = quotient-nan binary32 (upper b a) (square (b ⊕ a)) upper-second (rw (add-swap binary32 b a) total)

-- ---- both are less
below : (a : Float) → T (finite a) → T (le zero₀ a) → T (lt a large) → (plus a + less a) * 2 ^ 2 < 2 ^ 128 * den a
below a p n h = four-times-less (plus a) (less a) (den a) (2 ^ 126) (less_none a p n) (lt→cross a large p tt h)
  where
    four-times-less : (P N d w : ℕ) → N ≡ 0 → P * 1 + 0 * d < 1 * w * d + N * 1 → (P + N) * 4 < w * 4 * d
    four-times-less P N d w e h = omega arith

less_both : (a b : Float) → four₀ ⊗ a ⊗ b ≡ four₀ ⊗ b ⊗ a → quad a b ≡ quad b a
unfolding quad
less_both a b e = λ j. (e j ⊖ gap b a j) ⊘ square (add-swap binary32 a b j)

-- ---- any two squares
sides : (a : Float) → Reaches large a ⊎ (T (finite a) × T (lt a large))
sides nan = inl absurd
sides (inf s) = inl absurd
sides (fin s m e) = go (le large (fin s m e)) (λ t. t) (not-le→lt large (fin s m e) tt tt)
  where
    go : (t : Bool) → (T t → T (le large (fin s m e))) → (T (not t) → T (lt (fin s m e) large)) → Reaches large (fin s m e) ⊎ (T true × T (lt (fin s m e) large))
    go true h k = inl (λ p. h tt)
    go false h k = inr (tt, k tt)

quad-swap : (a b : Float) → T (fits binary32 a) → T (fits binary32 b) → Reaches zero₀ a → Reaches zero₀ b → quad a b ≡ quad b a
quad-swap a b t u A B = elim (sides a) [
  | inl h ↦ large-first a b h B ∙ sym (large-second a b h B)
  | inr p ↦ elim (sides b) [
    | inl h ↦ large-second b a h A ∙ sym (large-first b a h A)
    | inr q ↦ less_both a b (scaled-swap binary32 2 a b p.0 q.0 t u (below a p.0 (A p.0) p.1) (below b q.0 (B q.0) q.1))
  ]
]

quad-squares : (x y : Float) → quad (square x) (square y) ≡ quad (square y) (square x)
quad-squares x y = quad-swap (square x) (square y) (mul-fits binary32 x x) (mul-fits binary32 y y) (square-at-least binary32 x) (square-at-least binary32 y)

-- ---- the measure
pub qpsk_measure-turn : (y : C32) → qpsk_measure (turn y) ≡ qpsk_measure y
unfolding qpsk_measure
qpsk_measure-turn y = ap (λ (a : Float). quad a (square y.re)) (mul-negs binary32 y.im y.im) ∙ quad-squares y.im y.re

pub qpsk_measure-alike : {v z : C32} → AlikeSample v z → qpsk_measure v ≡ qpsk_measure z
unfolding qpsk_measure
qpsk_measure-alike h = λ j. quad (like-square binary32 h.real j) (like-square binary32 h.imag j)
