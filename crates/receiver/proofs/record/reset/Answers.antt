-- `receiver::reset` meets its contract: both loops are reset, and the count is 0. Assumes nothing.
use Rattle.receiver.proofs.record.reset.Goals as goal

pub returns-clause-state : goal.returns-clause-state
returns-clause-state c =
    let t = c.reset.ensures in
    let k = c.reset-2.ensures in
    λ j. record { timing = t.state j; carrier = k.state j; count = 0 }
