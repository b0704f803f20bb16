-- The eight points: a quarter turn moves each two places on, and their parts are entries of the cosine table.
-- Assumes nothing.
use mathlib.Core.Path.{◌≡◌, refl, ap}
use mathlib.Core.List.{List, [], ◌∷◌}
use Prim.Native.Nat.{ℕ, zero, suc, ◌+◌, ◌*◌, ◌%◌, ◌<◌}
use native.Mathlib.Omega.{arith}
use lib.ListN.{get_or, drop}
use lib.Ieee.{of_bits, neg}
use Rattle.values.specs.declared.sample.C32.{C32}
use Rattle.values.specs.Turn.{turn}
use Rattle.cosine.specs.Bits.{cos_bits}
use Rattle.cosine.specs.Table.{cos_list, cos_at}
use Rattle.constellations.specs.Octant.{points8, point_at}

-- ---- functions whose values below n are the same list agree there
abbrev values : ℕ → (ℕ → C32) → List C32
values zero f = []
values (suc n) f = f zero ∷ values n (λ k. f (suc k))

agree : (n : ℕ) (f g : ℕ → C32) → values n f ≡ values n g → (k : ℕ) → k < n → f k ≡ g k
agree zero f g e k l = absurd (omega arith)
agree (suc n) f g e zero l = ap (λ (v : List C32). get_or v 0 (f 0)) e
agree (suc n) f g e (suc k) l = agree n (λ k. f (suc k)) (λ k. g (suc k)) (ap (drop 1) e) k (omega arith)

-- ---- a quarter turn
pub points-turn : (k : ℕ) → k < 8 → point_at ((k + 2) % 8) ≡ turn (point_at k)
unfolding points8 of_bits neg
points-turn = agree 8 _ _ refl

-- ---- C15: point k stands at 2k + 1 sixteenths of a turn. Its real part is the table's cosine there, and its
-- imaginary part the cosine a quarter turn before
pub points-are-cosines : (k : ℕ) → k < 8 → point_at k ≡ record { re = cos_at ((2 * k + 1) * 256 % 4096); im = cos_at (((2 * k + 1) * 256 + 3072) % 4096) }
unfolding points8 of_bits neg cos_list cos_bits
points-are-cosines = agree 8 _ _ refl
