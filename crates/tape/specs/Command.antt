-- O2, E9: which command a byte stands for; any other byte is not defined. Definitions only.
use Rattle.std.specs.Prelude.{ℕ, cond, ◌==◌, Result, Ok, Err}
use Rattle.values.specs.declared.error.Refusal.{Refusal}
use Rattle.values.specs.declared.error.Refusal.TheVariants.{Undefined}
use Rattle.tape.specs.declared.command.Command.{Command}
use Rattle.tape.specs.declared.command.Command.TheVariants.{Carrier, Timing, Samples, Reset}

abbrev pub command_of : ℕ → Result Command Refusal
command_of b = cond (b == 1) (Ok Carrier) (cond (b == 2) (Ok Timing) (cond (b == 3) (Ok Samples) (cond (b == 4) (Ok Reset) (Err Undefined))))
