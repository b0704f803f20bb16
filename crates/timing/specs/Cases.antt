-- Cases of the timing loop with their values: two windows at 0.5, one error of each detector. Definitions only.
use Rattle.std.specs.Prelude.{◌≡◌, from_bits, Float}
use Rattle.std.specs.Float.{binary32}
use Rattle.std.specs.Float.Ieee.{neg}
use Rattle.ieee.specs.Notation.{zero₀, quarter₀, half₀, one₀}
use Rattle.timing.specs.Sample.{real}

-- 0.5625, 0.75 and 1.125
abbrev nine-sixteenths : Float
nine-sixteenths = from_bits binary32 0x3f100000

abbrev three_quarters : Float
three_quarters = from_bits binary32 0x3f400000

abbrev nine-eighths : Float
nine-eighths = from_bits binary32 0x3f900000

pub record Cases : Type 0 where
  -- X1: half way to a single 1: 0.5625
  pub one-ahead : real.interp zero₀ zero₀ one₀ zero₀ half₀ ≡ nine-sixteenths
  -- X2: half way between two samples of 1: 1.125
  pub one-on-both-sides : real.interp zero₀ one₀ one₀ zero₀ half₀ ≡ nine-eighths
  -- X3: Gardner's error: 0.5
  pub gardner : real.gardner one₀ (neg one₀) quarter₀ ≡ half₀
  -- X4: Mueller and Müller's error: 0.25
  pub mueller-müller : real.mm one₀ (neg half₀) (neg one₀) three_quarters ≡ quarter₀
