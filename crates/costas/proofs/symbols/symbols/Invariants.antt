-- The loop of `costas::symbols::symbols`: what the definition shows from here is what it shows from the start.
use Rattle.costas.specs.Answered.{reached}
use Rattle.costas.proofs.Laws.Loop.{Underway}
use Rattle.costas.proofs.symbols.symbols.Given as goal

abbrev pub invariant-loop-k : goal.invariant-loop-k
invariant-loop-k l = Underway l.table l.constellation l.p (reached l.input l.initial.output) l.n l.initial.t l.initial.output l.t l.output l.k
