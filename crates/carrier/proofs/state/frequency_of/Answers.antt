-- `carrier::state::frequency_of` meets its contract: a value that differs from itself is the NaN. Assumes nothing.
use Rattle.std.proofs.Common.{◌≡◌, Bool, true, false, cond, sym, ap, ◌∙◌}
use lib.Ieee.{Float, binary32, of_bits, ne, is_nan}
use Rattle.ieee.specs.Notation.{zero₀}
use Rattle.ieee.proofs.Laws.Nan.{differs-is}
use Rattle.numbers.specs.Denormal.{flushed}
use Rattle.numbers.specs.Narrowing.{narrowed}
use Rattle.numbers.specs.Range.{limited}
use Rattle.carrier.specs.State.{frequency_of}
use Rattle.carrier.proofs.state.frequency_of.Goals as goal

-- by the test of f, which is the frequency narrowed and flushed
by-test : (freq max f : Float) (b : Bool) → f ≡ flushed binary32 (narrowed freq) → ne f f ≡ b → cond b zero₀ (limited f max) ≡ frequency_of freq max
unfolding frequency_of
by-test freq max f b e t = ap (λ (d : Bool). cond d zero₀ (limited f max)) (sym t ∙ differs-is f) ∙ ap (λ (x : Float). cond (is_nan x) zero₀ (limited x max)) e

pub returns-then-f : goal.returns-then-f
unfolding of_bits
returns-then-f c = by-test _ _ _ true (c.flush_denormal-f.ensures ∙ ap (flushed binary32) c.narrow-single.ensures) c.if-f.true

pub returns-else-f : goal.returns-else-f
returns-else-f c = c.limit.ensures ∙ by-test _ _ _ false (c.flush_denormal-f.ensures ∙ ap (flushed binary32) c.narrow-single.ensures) c.if-f.false
