-- Values between two bounds, the lower one not below 0: the operations take bounds to bounds, so that a formula
-- is finite where the same formula of the bounds is. Assumes nothing.
use mathlib.Core.Path.{◌≡◌, refl}
use Prim.Native.Nat.{ℕ, ◌+◌, ◌*◌, ◌<◌}
use native.Mathlib.Nat.{zero-lt-suc, zero-mul, add-zero, mul-pos}
use native.Mathlib.Omega.{arith}
use lib.Dec.{T, not_T}
use lib.Ieee.{Float, Format, add, mul, div, le, lt, fits}
use lib.Ieee.Scale.{finite}
use lib.Ieee.Positive.{den, den_pos}
use Rattle.ieee.specs.Notation.{zero₀}
use Rattle.ieee.specs.Fraction.{less, Span}
use Rattle.ieee.specs.Rounding.{Rounds}
use Rattle.ieee.proofs.Laws.Order.{less_none, plus-some, le-trans-float, le-refl-float, not-le→lt, not-below, finite_number, between}
use Rattle.ieee.proofs.Laws.Rounds.{add_rounds, div-rounds}
use Rattle.ieee.proofs.Laws.Held.{rounds-above}
use Rattle.ieee.proofs.Laws.Mono.{add-mono, mul_mono, mul-nonneg, div_mono}

-- ---- what is added or divided from 0 up stays there
not-below-zero : (f : Format) (z : Float) (p n c : ℕ) → 0 < c → n ≡ 0 → Rounds f z p n c → T (le zero₀ z)
not-below-zero f z p n c C e r = rounds-above f zero₀ z 0 0 1 p n c (unfold fits in tt) (tt, refl) (zero-lt-suc 0) C r (omega arith)

add-nonneg : (f : Format) (x y : Float) → T (finite x) → T (finite y) → T (le zero₀ x) → T (le zero₀ y) → T (le zero₀ (add f x y))
add-nonneg f x y p q h k = not-below-zero f (add f x y) _ _ _ (mul-pos (den_pos x) (den_pos y)) (none (less x) (den x) (less y) (den y) (less_none x p h) (less_none y q k)) (add_rounds f x y p q)
  where
    none : (N d O b : ℕ) → N ≡ 0 → O ≡ 0 → N * b + O * d ≡ 0
    none N d O b n o = simp (n, o, zero-mul, add-zero)

div-nonneg : (f : Format) (x y : Float) → T (finite x) → T (finite y) → T (le zero₀ x) → T (lt zero₀ y) → T (le zero₀ (div f x y))
div-nonneg f x y p q h k =
    let a = (plus-some y q k).0 in
    not-below-zero f (div f x y) _ _ _ (mul-pos a (den_pos x)) (none (less x) (den y) (less_none x p h)) (div-rounds f x y p q a)
  where
    none : (N b : ℕ) → N ≡ 0 → N * b ≡ 0
    none N b n = simp (n, zero-mul)

-- what lies above a value above 0 does too
above_zero : (x y : Float) → T (finite x) → T (finite y) → T (lt zero₀ x) → T (le x y) → T (lt zero₀ y)
above_zero x y p q u h = not-le→lt y zero₀ (finite_number y q) tt (not_T (le y zero₀) (λ g. not-below zero₀ x tt p (le-trans-float x y zero₀ h g) u))

pub span-above : {lo hi x : Float} → Span lo hi x → T (le zero₀ x)
span-above {lo} {hi} {x} a = le-trans-float zero₀ lo x a.from a.low

pub span-finite : {lo hi x : Float} → Span lo hi x → T (finite x)
span-finite {lo} {hi} {x} a = between zero₀ x hi tt a.top (span-above a) a.high

pub low-finite : {lo hi x : Float} → Span lo hi x → T (finite lo)
low-finite {lo} {hi} {x} a = between zero₀ lo x tt (span-finite a) a.from a.low

top_above : {lo hi x : Float} → Span lo hi x → T (le zero₀ hi)
top_above {lo} {hi} {x} a = le-trans-float zero₀ x hi (span-above a) a.high

-- a value that is known
pub point : (x : Float) → T (finite x) → T (le zero₀ x) → Span x x x
point x p h = let r = le-refl-float x (finite_number x p) in record { top = p; from = h; low = r; high = r }

module _ (f : Format) {l h x m k y : Float} (a : Span l h x) (b : Span m k y) where
  pub add-span : T (finite (add f h k)) → Span (add f l m) (add f h k) (add f x y)
  add-span t = record {
    top = t;
    from = add-nonneg f l m (low-finite a) (low-finite b) a.from b.from;
    low = add-mono f l x m y (low-finite a) (span-finite a) (low-finite b) (span-finite b) a.low b.low;
    high = add-mono f x h y k (span-finite a) a.top (span-finite b) b.top a.high b.high;
  }

  pub mul-span : T (finite (mul f h k)) → Span (mul f l m) (mul f h k) (mul f x y)
  mul-span t = record {
    top = t;
    from = mul-nonneg f l m (low-finite a) (low-finite b) a.from b.from;
    low = mul_mono f l x m y (low-finite a) (span-finite a) (low-finite b) (span-finite b) (span-above a) b.from a.low b.low;
    high = mul_mono f x h y k (span-finite a) a.top (span-finite b) b.top (top_above a) (span-above b) a.high b.high;
  }

  -- by a divisor from above 0 on
  pub div-span : T (lt zero₀ m) → T (finite (div f h m)) → Span (div f l k) (div f h m) (div f x y)
  div-span u t =
      let v = above_zero m y (low-finite b) (span-finite b) u b.low in
      let w = above_zero y k (span-finite b) b.top v b.high in
      record {
        top = t;
        from = div-nonneg f l k (low-finite a) b.top a.from w;
        low = div_mono f l x k y (low-finite a) (span-finite a) b.top (span-finite b) a.from (span-above a) w v a.low b.high;
        high = div_mono f x h y m (span-finite a) a.top (span-finite b) (low-finite b) (span-above a) (top_above a) v u a.high b.low;
      }
