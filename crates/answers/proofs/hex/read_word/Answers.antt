-- `answers::read_word` meets its contract, by the loop's invariant. Assumes nothing.
use Rattle.std.proofs.Common.{◌≡◌, ℕ, get_or, drop, sym, ap, ◌∙◌, arith}
use Rattle.answers.specs.Hex.{spelled}
use Rattle.answers.proofs.Laws.Spelling.{digit-small, digit-more, no_digit, spelled_out, still-below, room, word-broken, word-spelled}
use Rattle.answers.proofs.hex.read_word.Goals as goal

pub returns-then-text-ne16 : goal.returns-then-text-ne16
returns-then-text-ne16 c = word-broken _ c.if-text-ne16.true

pub overflow_mul-value : goal.overflow_mul-value
overflow_mul-value c = let l = c.loop-b in record { fits = omega (arith, room l.b-index l.value 0 (omega arith) l.invariant.below (omega arith)) }

pub returns-in_err-value : goal.returns-in_err-value
returns-in_err-value c =
    let l = c.loop-b in
    c.from_residual.ensures ∙ no_digit c.args.text.now l.b-index l.value (omega arith) c.in_err-value.ensures ∙ l.invariant.rest ∙ word-spelled _ l.invariant.long

pub overflow_add-value : goal.overflow_add-value
overflow_add-value c =
    let l = c.loop-b in
    record { fits = room l.b-index l.value _ (omega arith) l.invariant.below (digit-small (get_or c.args.text.now l.b-index 0) _ c.in_ok-value.ensures) }

pub loop-b-preserved : goal.loop-b-preserved
loop-b-preserved c =
    let l = c.loop-b in
    let digit = c.in_ok-value.ensures in
    record {
      long = l.invariant.long;
      below = still-below l.b-index l.value _ (omega arith) l.invariant.below (digit-small (get_or c.args.text.now l.b-index 0) _ digit);
      rest = digit-more c.args.text.now l.b-index l.value (omega arith) _ digit ∙ l.invariant.rest;
    }

pub returns : goal.returns
returns c =
    let text = c.args.text.now in
    let l = c.loop-b in
    let end : l.b-index ≡ 16 = omega arith in
    spelled_out text l.value l.invariant.long ∙ ap (λ (i : ℕ). spelled (drop i text) l.value) (sym end) ∙ l.invariant.rest ∙ word-spelled text l.invariant.long
