-- A sample call: when it is refused, and with what number, counts, receiver and buffers it ends. Definitions only.
use Rattle.std.specs.Prelude.{ℕ, ◌*◌, Bool, not, ◌&&◌, ◌||◌, cond, List, eqb, length, take, Float}
use Rattle.values.specs.Answer.{Answer}
use Rattle.values.specs.declared.error.Refusal.{Refusal}
use Rattle.values.specs.declared.error.Refusal.TheVariants.{Uneven, Odd}
use Rattle.values.specs.Refusal.{number_of}
use Rattle.values.specs.Answer as answer
use Rattle.values.specs.Counter.{count_after}
use Rattle.values.specs.Buffers.{written, odd_either, odd}
use Rattle.timing.specs.Run.{done_complex}
use Rattle.carrier.specs.Run as carrier
use Rattle.receiver.specs.Record.{Receiver}
use Rattle.sample_calls.specs.declared.call.Ran.{Ran}

-- A2: the number of the answer (0: done), the counts, the receiver, and what the two lent buffers hold
pub record Outcome : Type 0 where
  pub number : ℕ
  pub consumed : ℕ
  pub produced : ℕ
  pub receiver : Receiver
  pub strobes : List Float
  pub output : List Float

-- what a call answers, with the receiver and the buffers as they stand then
abbrev pub outcome_of : Answer → Receiver → List Float → List Float → Outcome
outcome_of a r zs ys = record { number = answer.number a; consumed = answer.consumed a; produced = answer.produced a; receiver = r; strobes = zs; output = ys }

abbrev pub answered : Ran → List Float → List Float → Outcome
answered z zs ys = outcome_of z.answer z.receiver zs ys

-- A7: a refused call has the counts 0, and leaves the receiver and both buffers as they were
abbrev pub refused_call : Refusal → Receiver → List Float → List Float → Outcome
refused_call n r zs ys = record { number = number_of n; consumed = 0; produced = 0; receiver = r; strobes = zs; output = ys }

-- R1: an accepted call, the carrier's run over the strobes of timing's run; the counts are timing's (R5), and the
-- symbol count grows by what is produced (R18)
unfoldable pub done : Receiver → List Float → List Float → List Float → Outcome
done r xs zs ys =
    let t = done_complex r.timing xs zs in
    let c = carrier.done r.carrier (take (2 * t.produced) t.output) in
    record {
      number = 0;
      consumed = t.consumed;
      produced = t.produced;
      receiver = record { timing = t.state; carrier = c.state; count = count_after r.count t.produced };
      strobes = t.output;
      output = written c.output ys;
    }

-- R10: whether any of the three buffers has an odd count of f32 (E8)
abbrev pub odd_any : List Float → List Float → List Float → Bool
odd_any xs zs ys = odd_either xs zs || odd ys

-- R10: an odd count is refused (E8), then a strobe buffer and an output of different lengths (E7)
unfoldable pub called : Receiver → List Float → List Float → List Float → Outcome
called r xs zs ys = cond (odd_any xs zs ys) (refused_call Odd r zs ys) (cond (eqb (length zs) (length ys)) (done r xs zs ys) (refused_call Uneven r zs ys))

-- whether a call is not refused
abbrev pub accepts : List Float → List Float → List Float → Bool
accepts xs zs ys = not (odd_any xs zs ys) && eqb (length zs) (length ys)
