-- P5: the symbols of the sample recording and its carrier's phase. Definitions only.
use Rattle.std.specs.Prelude.{ℕ, ◌+◌, ◌*◌, ◌/◌, ◌%◌, ◌^◌}
use Rattle.ieee.specs.Notation.{one₀}
use Rattle.values.specs.declared.sample.C32.{C32}
use Rattle.values.specs.Samples.{silence}
use Rattle.values.specs.Turn.{turns}
use Rattle.make_recording.specs.declared.source.Source.{Source}

-- the generator's next state: it is linear, in 32 bits
abbrev pub multiplier : ℕ
multiplier = 1664525

abbrev pub increment : ℕ
increment = 1013904223

abbrev pub drawn : ℕ → ℕ
drawn s = (multiplier * s + increment) % 2 ^ 32

-- P5: the symbol of a state: (1, 1), turned as often as its top two bits say
abbrev pub sent_point : ℕ → C32
sent_point s = turns (s / 2 ^ 30) (record { re = one₀; im = one₀ })

-- the carrier goes 0.0005 of a turn on from sample to sample
abbrev pub sample_step : ℕ
sample_step = 0x20c49c

-- a twelfth of a turn
abbrev pub start_phase : ℕ
start_phase = 0x15555555

-- the first symbol comes out of silence, with the carrier a twelfth of a turn on
abbrev pub started : Source
started = record { state = drawn 1; from = silence; to = sent_point (drawn 1); phase = start_phase }

-- a symbol on
abbrev pub next_of : Source → Source
next_of s = record { state = drawn s.state; from = s.to; to = sent_point (drawn s.state); phase = (s.phase + 4 * sample_step) % 2 ^ 32 }
