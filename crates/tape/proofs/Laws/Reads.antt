-- O3: the bytes of a command read as the case that they are in, and as no other. Assumes nothing.
use mathlib.Core.Path.{◌≡◌, refl, sym, ◌∙◌, subst}
use mathlib.Core.Bool.{Bool, true, false}
use mathlib.Core.List.{List}
use Prim.Native.Nat.{ℕ, ◌≤◌, ◌<◌}
use native.Mathlib.Omega.{arith}
use borrow.Author.Tests.{lt-ltb, le-ltb, ltb-true, ltb-false, eqb-true, eqb-false}
use lib.Dec.{ltb, eqb}
use lib.ListN.{length}
use Rattle.tape.specs.Reading.{byte_at, count_of, samples_end, Reading, unfinished, announced, carrier_read, timing_read, samples_behind, samples_read, reading_of}
use Rattle.tape.specs.Reads.{Reads, nothing, no-command, is-reset, no-constellation, other-constellation, in-carrier, is-carrier, no-detector, other-detector, in-timing, is-timing, in_count, large-count, in-samples, is-samples}
use Rattle.tape.proofs.Laws.Steps as steps

-- ---- a case settles the reading
module _ (l : List ℕ) where
  pub read_is : {x : Reading} → Reads l x → reading_of l ≡ x
  unfolding reading_of carrier_read timing_read samples_read samples_behind
  read_is (nothing z) = steps.behind-short unfinished 1 l _ (omega arith)
  read_is (no-command one a b c d) = steps.no-command l one a b c d
  read_is (is-reset one e) = steps.reset-command l one e
  read_is (no-constellation z e) = steps.carrier-command l (omega arith) e ∙ steps.behind-short unfinished 2 l _ (omega arith)
  read_is (other-constellation two e h) = steps.carrier-command l (omega arith) e ∙ steps.selected-undefined _ 26 l _ two (le-ltb (byte_at l 1) 3 h)
  read_is (in-carrier two h e k) = steps.carrier-command l (omega arith) e ∙ steps.selected-short _ 26 l _ two (lt-ltb (byte_at l 1) 3 k) h
  read_is (is-carrier h e k) = steps.carrier-command l (omega arith) e ∙ steps.selected-whole _ 26 l _ (omega arith) (lt-ltb (byte_at l 1) 3 k) h
  read_is (no-detector z e) = steps.timing-command l (omega arith) e ∙ steps.behind-short unfinished 2 l _ (omega arith)
  read_is (other-detector two e h) = steps.timing-command l (omega arith) e ∙ steps.selected-undefined _ 42 l _ two (le-ltb (byte_at l 1) 2 h)
  read_is (in-timing two h e k) = steps.timing-command l (omega arith) e ∙ steps.selected-short _ 42 l _ two (lt-ltb (byte_at l 1) 2 k) h
  read_is (is-timing h e k) = steps.timing-command l (omega arith) e ∙ steps.selected-whole _ 42 l _ (omega arith) (lt-ltb (byte_at l 1) 2 k) h
  read_is (in_count one h e) = steps.samples-command l one e ∙ steps.behind-short unfinished 3 l _ h
  read_is (large-count three e h) = steps.samples-command l (omega arith) e ∙ steps.count-large l three h
  read_is (in-samples three h e k) = steps.samples-command l (omega arith) e ∙ steps.count_fits l three k ∙ steps.behind-short announced (samples_end (count_of l)) l _ h
  read_is (is-samples h e k) = steps.samples-command l (omega arith) e ∙ steps.count_fits l (omega arith) k ∙ steps.behind-whole announced (samples_end (count_of l)) l _ h

-- ---- and every list of bytes is in one
module _ {G : Type 0} where
  pub below_or : (a b : ℕ) → (a < b → G) → (b ≤ a → G) → G
  below_or a b f g = go (ltb a b) refl
    where
      go : (c : Bool) → ltb a b ≡ c → G
      go true e = f (ltb-true a b e)
      go false e = g (ltb-false a b e)

  equal-or : (a b : ℕ) → (a ≡ b → G) → ((a ≡ b → ⊥) → G) → G
  equal-or a b f g = go (eqb a b) refl
    where
      go : (c : Bool) → eqb a b ≡ c → G
      go true e = f (eqb-true a b e)
      go false e = g (eqb-false a b e)

-- some case of l
pub Some : List ℕ → Type 0
Some l = (x : Reading) × Reads l x

module _ (l : List ℕ) where
  carrier-case : 1 ≤ length l → byte_at l 0 ≡ 1 → Some l
  unfolding Some
  carrier-case one e =
      below_or (length l) 2 (λ h. (_, no-constellation (omega arith) e))
      (λ two. below_or (byte_at l 1) 3
      (λ k. below_or (length l) 26 (λ h. (_, in-carrier two h e k)) (λ h. (_, is-carrier h e k)))
      (λ k. (_, other-constellation two e k)))

  timing-case : 1 ≤ length l → byte_at l 0 ≡ 2 → Some l
  unfolding Some
  timing-case one e =
      below_or (length l) 2 (λ h. (_, no-detector (omega arith) e))
      (λ two. below_or (byte_at l 1) 2
      (λ k. below_or (length l) 42 (λ h. (_, in-timing two h e k)) (λ h. (_, is-timing h e k)))
      (λ k. (_, other-detector two e k)))

  samples-case : 1 ≤ length l → byte_at l 0 ≡ 3 → Some l
  unfolding Some
  samples-case one e =
      below_or (length l) 3 (λ h. (_, in_count one h e))
      (λ three. below_or 2048 (count_of l)
      (λ k. (_, large-count three e k))
      (λ k. below_or (length l) (samples_end (count_of l)) (λ h. (_, in-samples three h e k)) (λ h. (_, is-samples h e k))))

  some-case : Some l
  unfolding Some
  some-case =
      below_or (length l) 1 (λ h. (_, nothing (omega arith)))
      (λ one. equal-or (byte_at l 0) 1 (carrier-case one)
      (λ a. equal-or (byte_at l 0) 2 (timing-case one)
      (λ b. equal-or (byte_at l 0) 3 (samples-case one)
      (λ c. equal-or (byte_at l 0) 4 (λ e. (_, is-reset one e))
      (λ d. (_, no-command one a b c d))))))

  pub reads : Reads l (reading_of l)
  unfolding Some
  reads = subst (Reads l) (sym (read_is l some-case.1)) some-case.1
