-- The loop over a block: what the definition makes of the rest of the block, from here, is what it makes of
-- the whole. Assumes nothing.
use mathlib.Core.Path.{◌≡◌, sym, ap, ◌∙◌}
use mathlib.Core.Bool.{Bool, ◌||◌, cond}
use mathlib.Core.List.{List}
use Prim.Native.Nat.{ℕ, suc, ◌+◌, ◌-◌, ◌*◌, ◌/◌, ◌≤◌, ◌<◌}
use native.Mathlib.Omega.{arith}
use lib.Dec.{leb}
use lib.ListN.{length, length-drop, take, drop}
use lib.Seq.{take_all, drop-drop}
use lib.Ieee.{Float}
use borrow.Author.Tests.{eq-eqb, ne_eqb, le-leb, lt-leb}
use Rattle.receiver.specs.Record.{Receiver, Given}
use Rattle.sample_calls.specs.Call.{Outcome}
use Rattle.receive_recording.specs.declared.block.Called.{Called}
use Rattle.receive_recording.specs.declared.block.Received.{Received}
use Rattle.receive_recording.specs.Block.{call_on, called_of, ended_by, final, received}

-- ---- the invariant: the block is received up to place `at`, and `left` calls may follow
pub record Underway (xs : List Float) (r₀ r : Receiver) (none₀ none at left : ℕ) : Type 0 where
  pub within : at ≤ length xs
  pub given : Given r
  pub shows : received left r none (drop at xs) ≡ received (length xs) r₀ none₀ xs

module _ {xs : List Float} {r₀ r : Receiver} {none₀ none at left : ℕ} (u : Underway xs r₀ r none₀ none at left) where
  -- no call may follow
  pub ends-full : left ≤ 0 → record { number = 0; receiver = r; none = none } ≡ received (length xs) r₀ none₀ xs
  unfolding received
  ends-full full = let e : left ≡ 0 = omega arith in ap (λ (n : ℕ). received n r none (drop at xs)) (sym e) ∙ u.shows

  -- ---- a call with what is left, as the code lends it
  module _ (more : 0 < left) {h : Called} (e : h ≡ called_of none (call_on r (take (length xs - at) (drop at xs)))) where
    o : Outcome
    o = call_on r (drop at xs)

    same : h ≡ called_of none o
    unfolding o
    same = e ∙ (λ j. called_of none (call_on r (take_all (length xs - at) (drop at xs) (rw length-drop (omega arith)) j)))

    -- it ends the block, or calls with what it leaves follow
    abbrev next : Bool → Received
    next last = let z = called_of none o in cond last (ended_by z) (received (left - 1) z.receiver z.none (drop (2 * o.consumed) (drop at xs)))

    turn : received left r none (drop at xs) ≡ next (final (drop at xs) o)
    unfolding received o
    turn = let n : left ≡ suc (left - 1) = omega arith in ap (λ (n : ℕ). received n r none (drop at xs)) n

    by : {b : Bool} → final (drop at xs) o ≡ b → next b ≡ received (length xs) r₀ none₀ xs
    by t = ap next (sym t) ∙ sym turn ∙ u.shows

    half : (length xs - at) / 2 ≡ length (drop at xs) / 2
    half = ap (λ (n : ℕ). n / 2) (sym (length-drop at xs))

    produced : h.counts.produced ≡ o.produced
    produced = ap (λ (z : Called). z.counts.produced) same

    consumed : h.counts.consumed ≡ o.consumed
    consumed = ap (λ (z : Called). z.counts.consumed) same

    -- nothing is produced
    pub ends-silent : h.counts.produced ≡ 0 → ended_by h ≡ received (length xs) r₀ none₀ xs
    ends-silent z = ap ended_by same ∙ by (ap (λ (b : Bool). b || leb (length (drop at xs) / 2) o.consumed) (eq-eqb o.produced 0 (sym produced ∙ z)))

    module _ (some : h.counts.produced ≡ 0 → ⊥) where
      by-consumed : {b : Bool} → leb (length (drop at xs) / 2) o.consumed ≡ b → final (drop at xs) o ≡ b
      by-consumed t = (λ j. ne_eqb o.produced 0 (λ z. some (produced ∙ z)) j || t j)

      -- all is consumed
      pub ends-whole : (length xs - at) / 2 ≤ h.counts.consumed → ended_by h ≡ received (length xs) r₀ none₀ xs
      ends-whole z = ap ended_by same ∙ by (by-consumed (le-leb (length (drop at xs) / 2) o.consumed (let a = half in let b = consumed in omega arith)))

      -- the next call takes what is left
      pub goes_on : h.counts.consumed < (length xs - at) / 2 → Given h.receiver → {next : ℕ} → suc next ≡ left → Underway xs r₀ h.receiver none₀ h.none (at + 2 * h.counts.consumed) next
      goes_on z g {next} n =
          record {
            within = let a = u.within in omega arith;
            given = g;
            shows =
                ap (λ (k : ℕ). received k h.receiver h.none (drop (at + 2 * h.counts.consumed) xs)) (let m : next ≡ left - 1 = omega arith in m)
                ∙ (λ j. received (left - 1) (same j).receiver (same j).none (drop (at + 2 * (same j).counts.consumed) xs))
                ∙ ap (received (left - 1) o.receiver (called_of none o).none) (sym (drop-drop (2 * o.consumed) at xs))
                ∙ by (by-consumed (lt-leb (length (drop at xs) / 2) o.consumed (let a = half in let b = consumed in omega arith)));
          }
