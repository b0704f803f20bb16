-- `blocks_replay::compare::same_received` meets its contract: the words compared are those of the definition. Assumes nothing.
use Rattle.std.proofs.Common.{◌≡◌, ℕ, Bool, true, false, ◌&&◌, nat_eq, List, sym, ◌∙◌}
use Rattle.std.specs.Cmp.Lexicographic.{pointwise}
use Rattle.answers.specs.Slices.{same_words}
use Rattle.blocks_replay.specs.Compare.{same_received}
use Rattle.blocks_replay.proofs.calls.Received.same_received.Goals as goal

compared : {a b a' b' : List ℕ} {r : Bool} → r ≡ pointwise nat_eq a b → a ≡ a' → b ≡ b' → r ≡ same_words a' b'
compared e f g = e ∙ (λ j. same_words (f j) (g j))

-- the three tests one after the other
first-fails : {r x : Bool} (y : Bool) → r ≡ x → r ≡ false → r ≡ (x && y)
first-fails y e f = f ∙ rw (← e, f)

all-three : {r x y z : Bool} → x ≡ true → y ≡ true → r ≡ z → r ≡ (x && (y && z))
all-three e f g = rw (e, f) g

second-fails : {r x y : Bool} (z : Bool) → x ≡ true → r ≡ y → y ≡ false → r ≡ (x && (y && z))
second-fails z e f g = rw (e, g) (f ∙ g)

pub returns-else-eq : goal.returns-else-eq
unfolding same_received
returns-else-eq c = first-fails _ (compared c.eq.ensures c.sum_words.ensures c.sum_words-2.ensures) c.if-eq.false

pub returns-then-eq-2 : goal.returns-then-eq-2
unfolding same_received
returns-then-eq-2 c =
    all-three
    (sym (compared c.eq.ensures c.sum_words.ensures c.sum_words-2.ensures) ∙ c.if-eq.true)
    (sym (compared c.eq-then-eq.ensures c.timing_words.ensures c.timing_words-then-eq.ensures) ∙ c.if-eq-2.true)
    (compared c.eq-then-eq-2.ensures c.carrier_words.ensures c.carrier_words-then-eq-2.ensures)

pub returns-else-eq-2 : goal.returns-else-eq-2
unfolding same_received
returns-else-eq-2 c =
    let timing = compared c.eq-then-eq.ensures c.timing_words.ensures c.timing_words-then-eq.ensures in
    second-fails _
    (sym (compared c.eq.ensures c.sum_words.ensures c.sum_words-2.ensures) ∙ c.if-eq.true)
    timing
    (sym timing ∙ c.if-eq-2.false)
