-- `strobe_clock::steps::step_on` meets its contract: its numbers are the definition's, and v lies above 0,
-- so that its floor is the whole number to go on by. Assumes nothing.
use mathlib.Core.Path.{◌≡◌, sym, ap, ◌∙◌, subst}
use Prim.Native.Nat.{ℕ, ◌+◌, ◌<◌, ◌^◌}
use lib.Ieee.{Float, binary64, of_bits, add, sub, mul}
use Rattle.ieee.specs.Notation.{quarter₀}
use Rattle.numbers.specs.Range.{limited}
use Rattle.numbers.specs.Whole.{floored}
use Rattle.timing.specs.Clock.{new_integ, new_omega, moved, advanced}
use Rattle.timing.proofs.Laws.Place.{on-asks, on_room, on-place}
use Rattle.strobe_clock.proofs.steps.step_on.Goals as goal

-- the code's numbers are the definition's
integ-is : (c : goal.After-floor-f) → let a = c.args in c.limit-integ.result ≡ new_integ a.p a.c a.e
unfolding new_integ
integ-is c = let a = c.args in c.limit-integ.ensures ∙ ap (λ (x : Float). limited x a.p.lim) c.flush_denormal.ensures

omega-is : (c : goal.After-floor-f) → let a = c.args in add binary64 a.p.sps c.limit-integ.result ≡ new_omega a.p a.c a.e
unfolding new_omega
omega-is c = let a = c.args in ap (λ (x : Float). add binary64 a.p.sps x) (integ-is c)

abbrev v-of : goal.After-floor-f → Float
v-of c = let a = c.args in add binary64 (add binary64 a.c.mu (add binary64 a.p.sps c.limit-integ.result)) c.limit.result

v-is : (c : goal.After-floor-f) → let a = c.args in v-of c ≡ moved a.p a.c a.e
unfolding moved of_bits
v-is c =
    let a = c.args in
    ap (λ (x : Float). add binary64 (add binary64 a.c.mu (add binary64 a.p.sps c.limit-integ.result)) x) c.limit.ensures
    ∙ ap (λ (x : Float). add binary64 (add binary64 a.c.mu x) (limited (mul binary64 a.p.kp a.e) (mul binary64 x quarter₀))) (omega-is c)

floor-is : (c : goal.After-floor-f) → let a = c.args in c.floor-f.result ≡ floored (moved a.p a.c a.e)
floor-is c = c.floor-f.ensures ∙ ap floored (v-is c)

pub count-requires : goal.count-requires
count-requires c =
    let s = c in
    on-asks s.args.c.i (moved s.args.p s.args.c s.args.e) c.floor-f.result s.requires (floor-is c)

pub overflow_add-i : goal.overflow_add-i
overflow_add-i c =
    let s = c in
    let room = on_room s.args.c.i (moved s.args.p s.args.c s.args.e) c.floor-f.result s.requires (floor-is c.before.before) in
    record { fits = subst (λ (n : ℕ). s.args.c.i + n < 2 ^ 64) (sym c.count.ensures) room }

pub returns : goal.returns
unfolding advanced
returns c =
    let s = c in
    let a = s.args in
    let f = c.before.before in
    let i = ap (λ (n : ℕ). a.c.i + n) c.count.ensures ∙ on-place a.c.i (moved a.p a.c a.e) f.floor-f.result s.requires (floor-is f) in
    let m : sub binary64 (v-of f) f.floor-f.result ≡ sub binary64 (moved a.p a.c a.e) (floored (moved a.p a.c a.e)) =
    λ j. sub binary64 (v-is f j) (floor-is f j) in
    λ j. record { i = i j; mu = m j; omega = omega-is f j; integ = integ-is f j }
