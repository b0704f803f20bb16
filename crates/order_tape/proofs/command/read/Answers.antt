-- `order_tape::command::read` meets its contract: no more bytes come than the field wants. Assumes nothing.
use borrow.Author.Rules.{rules}
use native.Mathlib.Omega.{arith}
use Rattle.order_tape.proofs.Laws.Command.{begins, field, goes_on}
use Rattle.order_tape.proofs.command.read.Goals as goal

pub loop-k-init : goal.loop-k-init
loop-k-init g c = begins c.args.desk c.args.bytes.now c.args.symbols.now

pub overflow_add-end : goal.overflow_add-end
overflow_add-end g c = let h = field c.loop-k.invariant c.requires.room c.in-Wants.ensures.outcome in record { fits = omega (arith, h.1) }

pub slice_bounds-read_some-end : goal.slice_bounds-read_some-end
slice_bounds-read_some-end g c =
    let h = field c.loop-k.invariant c.requires.room c.in-Wants.ensures.outcome in
    let k = c.loop-k.invariant.kept in
    omega (arith, h.1)

pub loop-k-smaller : goal.loop-k-smaller
loop-k-smaller g c = let h = field c.loop-k.invariant c.requires.room c.in-Wants.ensures.outcome in omega (arith, h.1)

pub loop-k-preserved : goal.loop-k-preserved
loop-k-preserved g c =
    let h = field c.loop-k.invariant c.requires.room c.in-Wants.ensures.outcome in
    goes_on c.loop-k.invariant c.requires.room c.in-Wants.ensures.outcome c.in-Wants.ensures.output c.read_some.new.buf (search rules) (omega (arith, h.1))
