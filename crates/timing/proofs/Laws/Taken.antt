-- One output place, over any sample type: the middle is taken or left by two tests, and a strobe is made
-- of its parts. Assumes nothing.
use Rattle.std.proofs.Common.{◌≡◌, ℕ, ◌<◌, ◌≤◌, Bool, true, false, cond, ◌&&◌, leb, List, length, sym, refl, ap, ◌∙◌, le-leb}
use borrow.Author.Tests.{lt-leb}
use lib.Ieee.{Float}
use Rattle.timing.specs.declared.params.Params.{Params}
use Rattle.timing.specs.declared.clock.Clock.{Clock}
use Rattle.timing.specs.Sample.{Ops}
use Rattle.timing.specs.Clock.{mid_index, mid_part, advanced, settled, mid_left}
use Rattle.timing.specs.Loop.{Track, lacks, there, value_at, with_mid, mid_taken, decision, error_of, strobed}
use Rattle.timing.specs.Run.{Hist, line}
use Rattle.timing.proofs.Laws.Line.{there-within}

-- ---- the middle, as its two tests say
module _ {A : Type 0} (o : Ops A) (p : Params) (l : List A) (s : Track A) where
  abbrev pub middle : A
  middle = value_at o l (mid_index s.clock) (mid_part s.clock)

  pub mid_by : {lack near : Bool} → lacks p s ≡ lack → there l (mid_index s.clock) ≡ near → mid_taken o p l s ≡ cond (lack && near) (with_mid s middle) s
  unfolding mid_taken
  mid_by h k = λ j. cond (h j && k j) (with_mid s middle) s

  pub mid-not-lacking : lacks p s ≡ false → s ≡ mid_taken o p l s
  mid-not-lacking held = sym (mid_by held refl)

  -- it moves nothing
  pub mid-stays : (mid_taken o p l s).clock ≡ s.clock
  unfolding mid_taken
  mid-stays = go (lacks p s && there l (mid_index s.clock))
    where
      go : (b : Bool) → (cond b (with_mid s middle) s).clock ≡ s.clock
      go true = refl
      go false = refl

-- with n samples of input
module _ {A : Type 0} (o : Ops A) (p : Params) (h : Hist A) (xs : List A) (n : ℕ) (e : length xs ≡ n) (s : Track A) where
  near_within : there (line h xs) (mid_index s.clock) ≡ leb (mid_index s.clock) n
  near_within = there-within h xs (mid_index s.clock) n e

  pub mid-taken : (m : A) → lacks p s ≡ true → mid_index s.clock ≤ n → m ≡ middle o p (line h xs) s → with_mid s m ≡ mid_taken o p (line h xs) s
  mid-taken m lack within is_m = ap (with_mid s) is_m ∙ sym (mid_by o p (line h xs) s lack (near_within ∙ le-leb _ _ within))

  pub mid-too-far : lacks p s ≡ true → n < mid_index s.clock → s ≡ mid_taken o p (line h xs) s
  mid-too-far lack beyond = sym (mid_by o p (line h xs) s lack (near_within ∙ lt-leb _ _ beyond))

-- ---- the strobe y
pub strobed-parts : {A : Type 0} (o : Ops A) (p : Params) (s : Track A) (y d : A) (x : Float) (c : Clock) (ready : Bool)
    → d ≡ decision o p.ted s.d_prev y
    → x ≡ error_of o p.ted s y d
    → c ≡ advanced p s.clock (settled s.started x)
    → ready ≡ mid_left p.ted s.mid_ready
    → record { clock = c; y_prev = y; d_prev = d; mid = s.mid; mid_ready = ready; started = true } ≡ strobed o p s y
unfolding strobed
strobed-parts o p s y d x c ready is-d is_x is_c is-ready =
    let clock-is = is_c ∙ ap (λ (e : Float). advanced p s.clock (settled s.started e)) (is_x ∙ ap (error_of o p.ted s y) is-d) in
    λ j. record { clock = clock-is j; y_prev = y; d_prev = is-d j; mid = s.mid; mid_ready = is-ready j; started = true }
