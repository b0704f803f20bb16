-- P8: a block of the recording, received call by call. Definitions only.
use Rattle.std.specs.Prelude.{◌≡◌, ℕ, zero, suc, ◌*◌, ◌/◌, ◌%◌, Bool, true, ◌||◌, cond, List, [], ◌∷◌, ◌++◌, T, eqb, leb, length, drop, replicate, Float}
use Rattle.ieee.specs.Notation.{zero₀}
use Rattle.values.specs.Samples.{samples}
use Rattle.receiver.specs.Record.{Receiver}
use Rattle.sample_calls.specs.Call.{Outcome, called}
use Rattle.sample_calls.specs.Calls.{outputs_of}
use Rattle.recordings.specs.declared.content.Content.{Content}
use Rattle.recordings.specs.Content.{content_with}
use Rattle.recordings.specs.None.{none_with}
use Rattle.receive_recording.specs.declared.block.Called.{Called}
use Rattle.receive_recording.specs.declared.block.Received.{Received}

-- a call with places for 256 symbols
abbrev pub places : List Float
places = replicate 512 zero₀

abbrev pub call_on : Receiver → List Float → Outcome
call_on r xs = called r xs places places

-- its number, counts and receiver, and how many symbols read none with it
abbrev pub called_of : ℕ → Outcome → Called
called_of none o = record { counts = record { number = o.number; consumed = o.consumed; produced = o.produced }; receiver = o.receiver; none = none_with none (outputs_of o) }

-- what a block comes to with its last call
abbrev pub ended_by : Called → Received
ended_by z = record { number = z.counts.number; receiver = z.receiver; none = z.none }

-- nothing is produced, or all is consumed
abbrev pub final : List Float → Outcome → Bool
final xs o = eqb o.produced 0 || leb (length xs / 2) o.consumed

-- calls with what is left of the block, n at most
unfoldable pub received : ℕ → Receiver → ℕ → List Float → Received
received zero r none xs = record { number = 0; receiver = r; none = none }
received (suc n) r none xs =
    let o = call_on r xs in
    let z = called_of none o in
    cond (final xs o) (ended_by z) (received n z.receiver z.none (drop (2 * o.consumed) xs))

-- ---- a recording, received block by block
-- what the summary tells of: the receiver, and how many symbols read none
pub record Told : Type 0 where
  pub receiver : Receiver
  pub none : ℕ

abbrev pub told_by : Received → Told
told_by z = record { receiver = z.receiver; none = z.none }

unfoldable pub received_all : Told → List (List Float) → Told
received_all t [] = t
received_all t (b ∷ bs) = received_all (told_by (received (length b) t.receiver t.none b)) bs

-- what its samples are, seen block by block behind those before
unfoldable pub content_all : Content → List (List Float) → Content
content_all c [] = c
content_all c (b ∷ bs) = content_all (content_with c (samples b)) bs

-- the blocks one after the other
unfoldable pub whole : List (List Float) → List Float
whole [] = []
whole (b ∷ bs) = b ++ whole bs

-- no block ends inside a sample
unfoldable pub Even : List (List Float) → Type 0
Even [] = T true
Even (b ∷ bs) = (length b % 2 ≡ 0) × Even bs
