-- O3: a command is read up to its end and no further. Definitions only.
use Rattle.std.specs.Prelude.{◌≡◌, true, ℕ, T, Result, Ok, Err}
use Rattle.tape.specs.declared.answer.Step.{Step}
use Rattle.tape.specs.declared.answer.Step.TheVariants.{Wants, Done, Refused}
use Rattle.order_tape.specs.declared.command.Command.{Command}
use Rattle.order_tape.specs.declared.command.Broken.{Broken}

-- what came of a command, also where a read failed
abbrev pub command_of : Result Command Broken → Command
command_of (Ok c) = c
command_of (Err b) = b.command

-- of so many bytes that were read, none is behind the command that is carried out, or behind the field that is refused
abbrev pub ReadTo : ℕ → Step → Type 0
ReadTo n (Wants k) = T true
ReadTo n (Done c) = c.used ≡ n
ReadTo n (Refused s) = s.read ≡ n
