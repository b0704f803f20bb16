-- The loop of `answers::read_word`: the digits left spell, after those read, what all of them do.
use Rattle.std.proofs.Common.{◌≡◌, ◌^◌, ◌<◌, length, drop}
use Rattle.answers.specs.Hex.{spelled}
use Rattle.answers.proofs.hex.read_word.Given as goal

abbrev pub invariant-loop-b : goal.invariant-loop-b
invariant-loop-b l = record { long : length l.text ≡ 16; below : l.value < 16 ^ l.b-index; rest : spelled (drop l.b-index l.text) l.value ≡ spelled l.text 0 }
