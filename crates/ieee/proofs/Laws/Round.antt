-- `round` and the sign: the sign is only copied, a zero stays one, and what has no minus sign gets none.
-- Assumes nothing.
use mathlib.Core.Path.{◌≡◌, refl, ap, ◌∙◌}
use Prim.Native.Nat.{ℕ, zero, suc, ◌+◌, ◌*◌, ◌^◌, ◌<◌}
use native.Mathlib.Nat.{zero-mul}
use native.Mathlib.Omega.{arith}
use mathlib.Core.Bool.{Bool, true, false, not, cond}
use lib.Dec.{T, ltb}
use lib.IntN.{pos}
use lib.Ieee.{Float, nan, inf, fin, Format, binary32, binary64, prec, emax, low, odd, units, round, neg, is_nan}
use lib.Ieee.Exact.{HasValue}
use lib.Ieee.Scale.{round_same}

pub odd-neg : (d : ℕ) (s : Bool) (q k l : ℕ) → odd d (not s) q k l ≡ neg (odd d s q k l)
unfolding odd neg
odd-neg d s zero k l = refl
odd-neg d s (suc q) k l = refl

units-neg : (f : Format) (s : Bool) (q k : ℕ) → units f (not s) q k ≡ neg (units f s q k)
unfolding units neg
units-neg f s q k = go (ltb (q * 2 ^ k) (2 ^ (low f + suc (emax f))))
  where
    go : (b : Bool) → cond b (odd (suc (prec f)) (not s) q k (low f)) (inf (not s)) ≡ neg (cond b (odd (suc (prec f)) s q k (low f)) (inf s))
    go true = odd-neg (suc (prec f)) s q k (low f)
    go false = refl

pub round-neg : (f : Format) (s : Bool) (a c : ℕ) → round f (not s) a c ≡ neg (round f s a c)
unfolding round
round-neg f s a c = units-neg f s _ _

pub neg_value : (x : Float) (a c : ℕ) → HasValue x false a c → HasValue (neg x) true a c
unfolding neg
neg_value (fin s m e) a c h = (ap not h.0, h.1)
neg_value nan a c h = elim h [ ]
neg_value (inf _) a c h = elim h [ ]

at_one : (f : Format) (s : Bool) → round f s 0 1 ≡ fin s 0 (pos 0)
unfolding round
at_one binary32 s = refl
at_one binary64 s = refl

pub round-zero : (f : Format) (s : Bool) (c : ℕ) → 0 < c → round f s 0 c ≡ fin s 0 (pos 0)
round-zero f s c C = round_same f s 0 c 0 1 C (omega arith) (simp zero-mul) ∙ at_one f s

-- at or above zero, an infinity too
abbrev pub NonNeg : Float → Type 0
NonNeg nan = ⊥
NonNeg (inf s) = T (not s)
NonNeg (fin s m e) = T (not s)

odd-nonneg : (d q k l : ℕ) → NonNeg (odd d false q k l)
unfolding odd
odd-nonneg d zero k l = tt
odd-nonneg d (suc q) k l = tt

units-nonneg : (f : Format) (q k : ℕ) → NonNeg (units f false q k)
unfolding units
units-nonneg f q k = go (ltb (q * 2 ^ k) (2 ^ (low f + suc (emax f))))
  where
    go : (b : Bool) → NonNeg (cond b (odd (suc (prec f)) false q k (low f)) (inf false))
    go true = odd-nonneg (suc (prec f)) q k (low f)
    go false = tt

pub round-nonneg : (f : Format) (a c : ℕ) → NonNeg (round f false a c)
unfolding round
round-nonneg f a c = units-nonneg f _ _

-- ---- rounding gives a number
nonneg-number : (v : Float) → NonNeg v → T (not (is_nan v))
unfolding is_nan
nonneg-number (inf s) h = tt
nonneg-number (fin s m e) h = tt
nonneg-number nan h = elim h [ ]

neg-number : (v : Float) → T (not (is_nan v)) → T (not (is_nan (neg v)))
unfolding is_nan neg
neg-number nan h = h
neg-number (inf s) h = tt
neg-number (fin s m e) h = tt

pub round_number : (f : Format) (s : Bool) (a c : ℕ) → T (not (is_nan (round f s a c)))
round_number f false a c = nonneg-number (round f false a c) (round-nonneg f a c)
round_number f true a c = rw (round-neg f false a c) (neg-number (round f false a c) (nonneg-number (round f false a c) (round-nonneg f a c)))
