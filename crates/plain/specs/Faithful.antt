-- L1: what it is for plain records to stand for states: turning one into the other and back loses nothing.
-- Definitions only.
use Rattle.std.specs.Prelude.{◌≡◌}

-- R: the records; S: the states; `Given` of each says that a set-up, a reset, a setter or a call has given it
pub record Faithful {R S : Type 0} (state_of : R → S) (record_of : S → R) (GivenState : S → Type 0) (GivenRecord : R → Type 0) : Type 0 where
  -- a state that goes out as a record comes back as it was
  pub state-back : (s : S) → state_of (record_of s) ≡ s
  -- a given record that comes in as a state goes out as it was
  pub record-back : (x : R) → GivenRecord x → record_of (state_of x) ≡ x
  -- and what is given stays given
  pub given_out : (s : S) → GivenState s → GivenRecord (record_of s)
  pub given-in : (x : R) → GivenRecord x → GivenState (state_of x)
