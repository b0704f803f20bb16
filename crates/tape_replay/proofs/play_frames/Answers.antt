-- `tape_replay::play_frames` counts each frame that it reads. Assumes nothing.
use Rattle.std.proofs.Common.{◌≡◌, ℕ, sym, subst, arith}
use Rattle.replay.specs.declared.tally.Tally.{Tally}
use Rattle.replay.specs.Tally.{none_counted, Tallied, none}
use Rattle.replay.proofs.Laws.Tallied.{tallied-on}
use Rattle.tape_replay.proofs.play_frames.Goals as goal

-- before the first frame
nothing-counted : {n : ℕ} {l : Tally} → n ≡ 0 → l ≡ none_counted → Tallied n none_counted l
nothing-counted e f = rw (e, f) none

pub loop-init : goal.loop-init
loop-init g c =
    let start = c.nothing-counts.ensures in
    record { turns = start.frames; tallied = nothing-counted start.frames start.tally }

pub loop-preserved : goal.loop-preserved
loop-preserved g c =
    let next = c.play_next.ensures in
    let inv = c.loop.invariant in
    record {
      turns = omega (arith, next.frames, inv.turns);
      tallied = subst (λ (n : ℕ). Tallied n none_counted c.play_next.new.counts.tally) (sym next.frames) (tallied-on inv.tallied next.tallied);
    }
