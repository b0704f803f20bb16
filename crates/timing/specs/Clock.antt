-- The clock, which no sample enters: a place between samples, the middle's place, and the clock after a strobe with
-- the error e. In f64. Definitions only.
use Rattle.std.specs.Prelude.{◌≡◌, ℕ, ◌+◌, ◌-◌, ◌^◌, ◌<◌, ◌≤◌, Bool, false, cond, not, ◌&&◌, T, pos, Float}
use Rattle.std.specs.Float.{binary64}
use Rattle.std.specs.Float.Ieee.{lt, of_int, fits}
use Rattle.std.specs.Float.Ieee.Scale.{finite}
use Rattle.ieee.specs.Notation.{◌⊞◌, ◌⊟◌, ◌⊠◌, zero₀, quarter₀, half₀, three₀}
use Rattle.numbers.specs.Denormal.{flushed}
use Rattle.numbers.specs.Range.{limited}
use Rattle.numbers.specs.Whole.{floored, floor_plus, floor_less}
use Rattle.timing.specs.declared.params.Ted.{Ted}
use Rattle.timing.specs.declared.params.Ted.TheVariants.{Gardner, MuellerMuller}
use Rattle.timing.specs.declared.params.Params.{Params}
use Rattle.timing.specs.declared.clock.Clock.{Clock}

-- T21: where the next strobe lies, in samples, from the first sample of the next call's input
unfoldable pub next_strobe : Clock → Float
next_strobe c = (of_int binary64 (pos c.i) ⊟ three₀) ⊞ c.mu

-- the place that lies v after i: its index and its fraction
abbrev pub whole_at : ℕ → Float → ℕ
whole_at i v = i + floor_plus v - floor_less v

abbrev pub part_of : Float → Float
part_of v = v ⊟ floored v

-- T10: v, how far the midpoint sample (middle) lies from index i
unfoldable pub midway : Clock → Float
midway c = c.mu ⊟ c.omega ⊠ half₀

-- T10: the middle's index and fraction
abbrev pub mid_index : Clock → ℕ
mid_index c = whole_at c.i (midway c)

abbrev pub mid_part : Clock → Float
mid_part c = part_of (midway c)

-- T16: the integrator after the error e
unfoldable pub new_integ : Params → Clock → Float → Float
new_integ p c e = limited (flushed binary64 (c.integ ⊞ p.ki ⊠ e)) p.lim

-- T17: the spacing after the error e
unfoldable pub new_omega : Params → Clock → Float → Float
new_omega p c e = p.sps ⊞ new_integ p c e

-- T18: v, how far the next strobe lies from index i
unfoldable pub moved : Params → Clock → Float → Float
moved p c e =
    let omega = new_omega p c e in
    let step = limited (p.kp ⊠ e) (omega ⊠ quarter₀) in
    (c.mu ⊞ omega) ⊞ step

-- T6: the clock of a fresh state: position 4, which is input sample 1, the first with a full window
abbrev pub fresh_clock : Float → Clock
fresh_clock sps = record { i = 4; mu = zero₀; omega = sps; integ = zero₀ }

-- T18: where the loop stands after a strobe with the error e
unfoldable pub advanced : Params → Clock → Float → Clock
advanced p c e = let v = moved p c e in record { i = whole_at c.i v; mu = part_of v; omega = new_omega p c e; integ = new_integ p c e }

-- T13: the error that the loop takes, of the detector's error e
unfoldable pub settled : Bool → Float → Float
settled started e = cond started (cond (finite e) e zero₀) zero₀

-- T10: whether a middle is due
unfoldable pub lacking : Ted → Bool → Bool → Bool
lacking Gardner started ready = started && not ready
lacking MuellerMuller started ready = false

-- T11: whether a middle is held after a strobe
unfoldable pub mid_left : Ted → Bool → Bool
mid_left Gardner ready = false
mid_left MuellerMuller ready = ready

-- ---- what a move by floor(v) asks: back from i, or on
pub record Back (i : ℕ) (v : Float) : Type 0 where
  pub v-fits : T (fits binary64 v)
  pub v-finite : T (finite v)
  pub not_on : floor_plus v ≡ 0
  pub room : floor_less v ≤ i
  pub small : floor_less v < 2 ^ 53

pub record On (i : ℕ) (v : Float) : Type 0 where
  pub v-fits : T (fits binary64 v)
  pub v-finite : T (finite v)
  pub above : T (lt zero₀ v)
  pub room : i + floor_plus v < 2 ^ 64
  pub small : floor_plus v < 2 ^ 53
