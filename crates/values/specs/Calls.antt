-- Q5: a list of calls, each made on the state that the call before left. Of any state, call and outcome.
-- Definitions only.
use Rattle.std.specs.Prelude.{List, [], ◌∷◌}

-- `call` makes an outcome of a state and what a call lends, and `left` is the state that an outcome leaves
module _ {S C O : Type 0} (call : S → C → O) (left : O → S) where
  -- the outcomes, one for each call
  unfoldable pub outcomes_by : S → List C → List O
  outcomes_by s [] = []
  outcomes_by s (c ∷ cs) = let r = call s c in r ∷ outcomes_by (left r) cs

  -- and the state after the list
  unfoldable pub after_by : S → List C → S
  after_by s [] = s
  after_by s (c ∷ cs) = after_by (left (call s c)) cs
