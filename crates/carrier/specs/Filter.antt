-- C17 and C18: the frequency and the phase after the error of a symbol. Definitions only.
use Rattle.std.specs.Prelude.{◌+◌, ◌%◌, ◌^◌, Float}
use Rattle.std.specs.Float.{binary32}
use Rattle.ieee.specs.Notation.{◌⊕◌, ◌⊗◌}
use Rattle.numbers.specs.Denormal.{flushed}
use Rattle.numbers.specs.Range.{limited}
use Rattle.modulate.specs.Step.{phase_step}
use Rattle.carrier.specs.declared.params.Params.{Params}
use Rattle.carrier.specs.declared.filter.Nco.{Nco}

-- C17: the frequency after the error e
unfoldable pub new_freq : Params → Float → Float → Float
new_freq p freq e = limited (flushed binary32 (freq ⊕ p.ki ⊗ e)) p.max

-- C18: the oscillator after the error e, its phase moved on with the new frequency
unfoldable pub advanced : Params → Nco → Float → Nco
advanced p n e = let f = new_freq p n.freq e in record { phase = (n.phase + phase_step (f ⊕ p.kp ⊗ e)) % 2 ^ 32; freq = f }
