-- C19 and C20: the lock measure, and what it does to level and lock. In f32. Definitions only.
use Rattle.std.specs.Prelude.{Bool, true, false, cond, Float, Option, Some, None}
use Rattle.std.specs.Float.{binary32}
use Rattle.std.specs.Float.Ieee.{lt}
use Rattle.std.specs.Float.Ieee.Scale.{finite}
use Rattle.ieee.specs.Notation.{◌⊕◌, ◌⊖◌, ◌⊗◌, ◌⊘◌, half₀, one₀, two₀, four₀, eight₀, decimal}
use Rattle.values.specs.declared.sample.C32.{C32}
use Rattle.numbers.specs.Denormal.{flushed}
use Rattle.constellations.specs.declared.kinds.CostasConstellation.{CostasConstellation}
use Rattle.constellations.specs.declared.kinds.CostasConstellation.TheVariants.{Bpsk, Qpsk, Psk8}
use Rattle.constellations.specs.Octant.{decision_of}
use Rattle.detectors.specs.declared.lock.Lock.{Lock}

-- C19: a lock measure, or none where it is not finite
abbrev pub Metric : Type 0
Metric = Option Float

abbrev pub square : Float → Float
square x = x ⊗ x

-- ---- the measures
-- C19, BPSK: g / t
unfoldable pub bpsk_measure : C32 → Float
bpsk_measure y = let a = square y.re in let b = square y.im in (a ⊖ b) ⊘ (a ⊕ b)

-- C19, QPSK: of the squares a and b
unfoldable pub quad : Float → Float → Float
quad a b = ((four₀ ⊗ a) ⊗ b ⊖ square (a ⊖ b)) ⊘ square (a ⊕ b)

unfoldable pub qpsk_measure : C32 → Float
qpsk_measure y = quad (square y.re) (square y.im)

-- C19, 8-PSK: r, the part of the output along its point
unfoldable pub along : C32 → C32 → Float
along y d = y.re ⊗ d.re ⊕ y.im ⊗ d.im

-- C19, 8-PSK: of the square of r and of t
unfoldable pub fourfold : Float → Float → Float
fourfold rr t =
    let u = (rr ⊘ t) ⊗ two₀ ⊖ one₀ in
    let w = u ⊗ u in
    (eight₀ ⊗ w) ⊗ (w ⊖ one₀) ⊕ one₀

unfoldable pub psk8_measure : C32 → C32 → Float
psk8_measure y d = fourfold (square (along y d)) (square y.re ⊕ square y.im)

unfoldable pub measured : CostasConstellation → C32 → C32 → Float
measured Bpsk y d = bpsk_measure y
measured Qpsk y d = qpsk_measure y
measured Psk8 y d = psk8_measure y d

-- of an output and its own point
abbrev pub measured_own : CostasConstellation → C32 → Float
measured_own c y = measured c y (decision_of c y)

-- C19: a measure that is not finite counts as none
unfoldable pub metric_of : CostasConstellation → C32 → C32 → Metric
metric_of c y d = let m = measured c y d in cond (finite m) (Some m) None

-- ---- level and lock
-- C20: the level after the measure m
unfoldable pub smoothed : Float → Float → Float
smoothed level m = flushed binary32 (level ⊕ decimal binary32 1 100 ⊗ (m ⊖ level))

-- C20: whether there is lock at this level, where there `was` or was not before
unfoldable pub lock_after : Bool → Float → Bool
lock_after was level = cond (lt half₀ level) true (cond (lt level (decimal binary32 3 10)) false was)

-- C20: what a measure does to level and lock; without one nothing changes
unfoldable pub watched : Lock → Metric → Lock
watched k (Some m) = let l = smoothed k.level m in record { level = l; locked = lock_after k.locked l }
watched k None = k
