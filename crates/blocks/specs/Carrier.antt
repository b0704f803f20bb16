-- Two runs of the carrier in a row, on a recording that is cut in two: what they give together. Definitions only.
use Rattle.std.specs.Prelude.{◌++◌}
use Rattle.carrier.specs.Step.{Symbols}
use Rattle.carrier.specs.Run.{Outcome}

-- B2: two runs as one, and below two calls
abbrev pub symbols_together : Symbols → Symbols → Symbols
symbols_together q r = record { values = q.values ++ r.values; last = r.last }

abbrev pub call_together : Outcome → Outcome → Outcome
call_together q r = record { number = r.number; state = r.state; output = q.output ++ r.output }
