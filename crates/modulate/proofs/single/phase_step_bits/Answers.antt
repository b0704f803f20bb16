-- `modulate::single::phase_step_bits` meets its contract: its number is the law's, and below 2^14 each difference and
-- sum has room. Assumes nothing.
use Rattle.std.proofs.Common.{◌≡◌, ℕ, ◌+◌, ◌-◌, ◌/◌, ◌%◌, ◌^◌, ◌≤◌, ltb, sym, ap, ◌∙◌, subst, arith}
use lib.Ieee.{binary32, to_bits}
use Rattle.ieee.proofs.Laws.Test.{yes}
use Rattle.modulate.proofs.Laws.StepBits.{moved}
use Rattle.modulate.proofs.Laws.Fields.{digits, shifted, bits_quotient, field-le, places-room, step-of-bits}
use Rattle.modulate.proofs.single.phase_step_bits.Goals as goal
use Rattle.modulate.proofs.single.phase_step_bits.Goals.{After-min-k}

-- the quotient that the code makes is the law's
abbrev code-quotient : After-min-k → ℕ
code-quotient c = c.moved-s.result / 2 ^ c.min-k.result + (2 ^ 48 - (2 ^ 63 - 1) / 2 ^ c.min-k.result)

same-quotient : (c : After-min-k) → code-quotient c ≡ bits_quotient (to_bits binary32 c.args.v)
same-quotient c =
    let b = to_bits binary32 c.args.v in
    ap (λ (s : ℕ). s / 2 ^ c.min-k.result + (2 ^ 48 - (2 ^ 63 - 1) / 2 ^ c.min-k.result)) c.moved-s.ensures
    ∙ ap (λ (k : ℕ). moved (ltb b (2 ^ 31)) (shifted (digits b)) / 2 ^ k + (2 ^ 48 - (2 ^ 63 - 1) / 2 ^ k)) c.min-k.ensures

pub overflow_sub-exp : goal.overflow_sub-exp
overflow_sub-exp c =
    let l = field-le c.args.v (yes c.well_formed.0.1) c.requires.lower_bound c.requires.upper_bound in
    omega arith

pub overflow_sub-q1 : goal.overflow_sub-q1
overflow_sub-q1 c =
    let l = subst (λ (k : ℕ). (2 ^ 63 - 1) / 2 ^ k ≤ 2 ^ 47) (sym c.min-k.ensures) (places-room c.args.v (yes c.well_formed.0.1) c.requires.lower_bound c.requires.upper_bound) in
    omega arith

pub returns : goal.returns
returns c =
    ap (λ (q : ℕ). q / 2 % 2 ^ 32) (same-quotient c) ∙ step-of-bits c.args.v (yes c.well_formed.0.1) c.requires.lower_bound c.requires.upper_bound
