-- A run over buffers of any lengths, where the output has room for the input: all its symbols are carried; and of
-- buffers of one length that hold whole samples it is a call that is not refused. Assumes nothing.
use Rattle.std.proofs.Common.{◌≡◌, ◌/◌, ◌%◌, ◌≤◌, List, ◌++◌, length, ap, ◌∙◌, append-nil, arith, drop_of_length-le, take_all}
use lib.Ieee.{Float}
use Rattle.values.specs.declared.sample.C32.{C32}
use Rattle.values.specs.Samples.{samples, parts}
use Rattle.values.specs.Buffers.{written}
use Rattle.values.proofs.Laws.Samples.{length-samples, samples-take}
use Rattle.cosine.specs.Table.{cos_list}
use Rattle.carrier.specs.declared.state.CostasState.{CostasState}
use Rattle.carrier.specs.Step.{runs}
use Rattle.carrier.specs.Run.{Outcome, done, carried}
use Rattle.carrier.proofs.Laws.Count.{done-length}

-- what is made of the symbols l
abbrev done_of : CostasState → List C32 → Outcome
done_of s l = let r = runs cos_list s.constellation s.params s.track l in record { number = 0; state = record { constellation = s.constellation; params = s.params; track = r.last }; output = parts r.values }

pub carried-all : (s : CostasState) (xs ys : List Float) → length xs / 2 ≤ length ys / 2 → carried s xs ys ≡ record { number = 0; state = (done s xs).state; output = written (done s xs).output ys }
carried-all s xs ys h =
    let e = samples-take (length ys / 2) xs ∙ take_all (length ys / 2) (samples xs) (omega (arith, length-samples xs)) in
    ap (λ (l : List C32). let r = done_of s l in record { number = 0; state = r.state; output = written r.output ys }) e

pub carried-even : (s : CostasState) (xs ys : List Float) → length xs % 2 ≡ 0 → length xs ≡ length ys → carried s xs ys ≡ done s xs
carried-even s xs ys even equal =
    let r = done s xs in
    let none = drop_of_length-le ys {i = length r.output} (omega (arith, done-length s xs even)) in
    carried-all s xs ys (omega arith) ∙ ap (λ (l : List Float). record { number = 0; state = r.state; output = r.output ++ l }) none ∙ ap (λ (l : List Float). record { number = 0; state = r.state; output = l }) (append-nil r.output)
