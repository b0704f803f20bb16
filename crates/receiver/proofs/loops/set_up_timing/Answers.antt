-- `receiver::set_up_timing` meets its contract: timing's own set-up answers by the same rows. Assumes nothing.
use Rattle.receiver.proofs.Laws.Loops.{timing-answers, timing-given}
use Rattle.receiver.proofs.loops.set_up_timing.Goals as goal

pub returns : goal.returns
returns c = record { outcome = timing-answers c.args.t c.set_up.result c.set_up.ensures.outcome; given = timing-given c.set_up.result c.set_up.ensures.given }
