-- `strobe_clock::mid_position` meets its contract: the floor of v lies at or below 0, so that 0 - f is the whole
-- number to go back by. Assumes nothing.
use mathlib.Core.Path.{sym, ap, ◌∙◌, subst}
use Prim.Native.Nat.{ℕ, ◌-◌, ◌≤◌}
use lib.Ieee.{Float, binary64, of_bits, sub}
use Rattle.timing.specs.Clock.{midway}
use Rattle.timing.proofs.Laws.Clock.{middle-back}
use Rattle.timing.proofs.Laws.Place.{back-asks, back-room, back-place}
use Rattle.strobe_clock.proofs.steps.mid_position.Goals as goal

pub count-back-requires : goal.count-back-requires
unfolding of_bits midway
count-back-requires c = let s = c in back-asks s.args.c.i (midway s.args.c) c.floor-f.result (middle-back s.requires) c.floor-f.ensures

pub overflow_sub-i : goal.overflow_sub-i
unfolding of_bits midway
overflow_sub-i c =
    let s = c in
    let f = c.floor-f in
    subst (λ (n : ℕ). n ≤ s.args.c.i) (sym c.count-back.ensures) (back-room s.args.c.i (midway s.args.c) f.result (middle-back s.requires) f.ensures)

pub returns : goal.returns
unfolding of_bits midway
returns c =
    let s = c in
    let f = c.floor-f in
    let i = ap (λ (n : ℕ). s.args.c.i - n) c.count-back.ensures ∙ back-place s.args.c.i (midway s.args.c) f.result (middle-back s.requires) f.ensures in
    let m = ap (λ (x : Float). sub binary64 (midway s.args.c) x) f.ensures in
    λ j. record { i = i j; mu = m j }
