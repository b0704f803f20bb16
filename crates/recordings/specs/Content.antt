-- P3: whether there is something to receive in a recording. Definitions only.
use Rattle.std.specs.Prelude.{Bool, true, false, cond, not, ◌&&◌, ◌||◌, List, [], ◌∷◌}
use mathlib.Core.List.{foldl}
use Rattle.std.specs.Float.Ieee.Scale.{finite}
use Rattle.values.specs.declared.sample.C32.{C32}
use Rattle.symbol_numbers.specs.Symbol.{silent}
use Rattle.recordings.specs.declared.content.Content.{Content}
use Rattle.recordings.specs.declared.content.Content.TheVariants.{Empty, Blank, Signal}

-- both parts are finite
abbrev pub finite_both : C32 → Bool
finite_both x = finite x.re && finite x.im

-- there is something to receive in a sample that is finite and not silent
abbrev pub carries_any : C32 → Bool
carries_any x = finite_both x && not (silent x)

-- one sample more, by whether there is something to receive in it
abbrev pub seen_by : Bool → Content → Content
seen_by true c = Signal
seen_by false Empty = Blank
seen_by false Blank = Blank
seen_by false Signal = Signal

abbrev pub seen : Content → C32 → Content
seen c x = seen_by (carries_any x) c

-- samples behind those before
abbrev pub content_with : Content → List C32 → Content
content_with c l = foldl seen c l

-- ---- the whole recording
unfoldable pub any_carries : List C32 → Bool
any_carries [] = false
any_carries (x ∷ l) = carries_any x || any_carries l

abbrev pub content_of : List C32 → Content
content_of [] = Empty
content_of (x ∷ l) = cond (any_carries (x ∷ l)) Signal Blank
