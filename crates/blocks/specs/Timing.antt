-- Two timing calls in a row on a recording that is cut in two: what they give together. The second is handed what
-- the first did not consume and then its own block, and the places that the first left. Definitions only.
use Rattle.std.specs.Prelude.{ℕ, ◌+◌, ◌-◌, ◌*◌, List, ◌++◌, length, take, drop, Float}
use Rattle.values.specs.declared.sample.C32.{C32}
use Rattle.timing.specs.Sample.{Ops}
use Rattle.timing.specs.Run.{Ran, ran, Outcome, called_real, called_complex}

-- ---- two runs
-- B1: the run that goes on after q, which ran on xs, where there are `places` in all
abbrev pub goes_on : {A : Type 0} → Ops A → Ran A → List A → List A → ℕ → Ran A
goes_on o q xs ys places = ran o q.state (drop q.taken xs ++ ys) (places - length q.values)

-- B1: two runs as one: the strobes in a row, the sum of the counts, and the last state
abbrev pub together : {A : Type 0} → Ran A → Ran A → Ran A
together q r = record { state = r.state; taken = q.taken + r.taken; values = q.values ++ r.values }

-- ---- B1: two calls as one, on samples of w f32
abbrev pub call_together : {A : Type 0} → ℕ → Outcome A → Outcome A → Outcome A
call_together w q r = record { number = r.number; consumed = q.consumed + r.consumed; produced = q.produced + r.produced; state = r.state; output = take (w * q.produced) q.output ++ r.output }

abbrev pub goes_on_real : Outcome Float → List Float → List Float → Outcome Float
goes_on_real q xs ys = called_real q.state (drop q.consumed xs ++ ys) (drop q.produced q.output)

abbrev pub goes_on_complex : Outcome C32 → List Float → List Float → Outcome C32
goes_on_complex q xs ys = called_complex q.state (drop (2 * q.consumed) xs ++ ys) (drop (2 * q.produced) q.output)
