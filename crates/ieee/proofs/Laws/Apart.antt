-- A distance between two fractions in another measure: e / d is (e * k) / (d * k). Assumes nothing.
use Prim.Native.Nat.{ℕ, ◌+◌, ◌*◌, ◌≤◌, ◌<◌}
use native.Mathlib.Nat.{mul-le-mul_right, le_of_mul-le-mul_right}
use native.Mathlib.Omega.{arith}
use Rattle.ieee.specs.Fraction.{Fraction, Within}
use Rattle.ieee.proofs.Laws.Order.{products}

-- ---- a coarser measure: e / d is (e * k) / (d * k)
coarser : (x y c e d k : ℕ) → 0 < k → x * (d * k) ≤ y * (d * k) + e * k * c → x * d ≤ y * d + e * c
coarser x y c e d k K h = le_of_mul-le-mul_right {k = k} (simp products (let g = simp products at h in omega arith)) K

pub within-coarser : (e d k : ℕ) (q r : Fraction) → 0 < k → Within (e * k) (d * k) q r → Within e d q r
within-coarser e d k q r K h = record { under = coarser _ _ _ e d k K h.under; above = coarser _ _ _ e d k K h.above }

-- and a finer one
finer : (x y c e d k : ℕ) → x * d ≤ y * d + e * c → x * (d * k) ≤ y * (d * k) + e * k * c
finer x y c e d k h = simp products (let g = simp products at (mul-le-mul_right k h) in omega arith)

pub within-finer : (e d k : ℕ) (q r : Fraction) → Within e d q r → Within (e * k) (d * k) q r
within-finer e d k q r h = record { under = finer _ _ _ e d k h.under; above = finer _ _ _ e d k h.above }
