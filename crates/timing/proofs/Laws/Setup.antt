-- Which set-up is refused, exactly; and what an accepted one says of its parameters: where sps and the deviation lie,
-- that the gains are finite, and what the limit is. Assumes nothing.
use Rattle.std.specs.Prelude.{Ok, Err}
use Rattle.std.proofs.Common.{◌≡◌, ℕ, true, false, ◌&&◌, T, List, pos, negsuc, sym, refl, ap, ◌∙◌, subst}
use lib.Ieee.{Float, fin, binary64, round, mul, le}
use lib.Ieee.Fits.{and_l, and_r}
use lib.Ieee.Scale.{finite}
use Rattle.ieee.specs.Notation.{zero₀, two₀, decimal}
use Rattle.checks.specs.Range.{in_range, positive}
use Rattle.checks.specs.Table.{Row, Passed, Exactly}
use Rattle.checks.proofs.Laws.Rows.{first-passed, first-none}
use Rattle.checks.proofs.Laws.Exactly.{exactly, accepted-is}
use Rattle.checks.proofs.Laws.Ranges.{ranged}
use Rattle.timing.specs.declared.params.Ted.{Ted}
use Rattle.timing.specs.declared.params.Params.{Params}
use Rattle.timing.specs.Setup.{Tuning, rows, params_with, tuned, tuning_number}
use Rattle.timing.specs.Gains.{kp_of, ki_of}
use Rattle.timing.specs.Sample.{Ops}
use Rattle.timing.specs.Given.{Tuned}
use Rattle.timing.specs.Run.{opened_by, opening_number}

-- ---- T4: which set-up is refused, by its number
pub refused-exactly : (sps : Float) (ted : Ted) (bw damping dev gain : Float) → Exactly (tuning_number (tuned sps ted bw damping dev gain)) (rows sps bw damping dev gain)
unfolding tuned
refused-exactly sps ted bw damping dev gain = exactly tuning_number Err (λ n. refl) _ refl (rows sps bw damping dev gain)

-- so it is of the set-up of a loop over any samples
pub opened-exactly : {A : Type 0} (o : Ops A) (sps : Float) (ted : Ted) (bw damping dev gain : Float) → Exactly (opening_number (opened_by o (tuned sps ted bw damping dev gain))) (rows sps bw damping dev gain)
opened-exactly o sps ted bw damping dev gain =
    let t = tuned sps ted bw damping dev gain in
    subst (λ (n : ℕ). Exactly n (rows sps bw damping dev gain)) (same_number t) (refused-exactly sps ted bw damping dev gain)
  where
    same_number : (t : Tuning) → tuning_number t ≡ opening_number (opened_by o t)
    same_number (Ok p) = refl
    same_number (Err n) = refl

-- ---- which is accepted
pub all-passed : (sps : Float) (ted : Ted) (bw damping dev gain : Float) → in_range (decimal binary64 2 1) sps (decimal binary64 1000000 1) ≡ true → in_range (decimal binary64 1 10000) bw (decimal binary64 1 10) ≡ true → in_range (decimal binary64 1 10) damping (decimal binary64 4 1) ≡ true
    → in_range zero₀ dev (decimal binary64 5 100) ≡ true → positive gain ≡ true → (finite (kp_of sps bw damping gain) && finite (ki_of sps bw damping gain)) ≡ true
    → tuned sps ted bw damping dev gain ≡ Ok (params_with sps ted bw damping dev gain (kp_of sps bw damping gain) (ki_of sps bw damping gain))
unfolding tuned
all-passed sps ted bw damping dev gain a b c d e f = first-passed Err _ _ _ a ∙ first-passed Err _ _ _ b ∙ first-passed Err _ _ _ c ∙ first-passed Err _ _ _ d ∙ first-passed Err _ _ _ e ∙ first-passed Err _ _ _ f ∙ first-none Err _

-- ---- what that says of the parameters
abbrev pub million₀ : Float
million₀ = fin false 15625 (pos 6)

-- 0.05, to the nearest
abbrev pub twentieth₀ : Float
twentieth₀ = fin false 3602879701896397 (negsuc 55)

pub record Limits (p : Params) : Type 0 where
  pub sps-finite : T (finite p.sps)
  pub sps-low : T (le two₀ p.sps)
  pub sps-high : T (le p.sps million₀)
  pub dev-finite : T (finite p.max_deviation)
  pub dev-low : T (le zero₀ p.max_deviation)
  pub dev-high : T (le p.max_deviation twentieth₀)
  pub lim_is : p.lim ≡ mul binary64 p.max_deviation p.sps
  pub kp-finite : T (finite p.kp)
  pub ki-finite : T (finite p.ki)

-- the parameters of an accepted set-up are its values, with the gains and the limit worked out of them
abbrev worked : Params → Params
worked p = params_with p.sps p.ted p.loop_bw p.damping p.max_deviation p.ted_gain (kp_of p.sps p.loop_bw p.damping p.ted_gain) (ki_of p.sps p.loop_bw p.damping p.ted_gain)

abbrev rows_of : Params → List Row
rows_of p = rows p.sps p.loop_bw p.damping p.max_deviation p.ted_gain

accepted-rows : (p : Params) → Tuned p → Passed (rows_of p) × (◌≡◌ {A = Tuning} (Ok (worked p)) (Ok p))
unfolding tuned
accepted-rows p t = accepted-is tuning_number Err (λ n. refl) (Ok (worked p)) refl (rows_of p) (Ok p) refl t.accepted

inner : (p q : Params) → ◌≡◌ {A = Tuning} (Ok p) (Ok q) → p ≡ q
inner p q e = cc

pub limits : (p : Params) → Tuned p → Limits p
unfolding round
limits p t =
    let a = accepted-rows p t in
    let e = inner (worked p) p a.1 in
    let r = a.0 in
    let kp = kp_of p.sps p.loop_bw p.damping p.ted_gain in
    let ki = ki_of p.sps p.loop_bw p.damping p.ted_gain in
    let s = ranged two₀ p.sps million₀ r.0 in
    let d = ranged zero₀ p.max_deviation twentieth₀ r.1.1.1.0 in
    let g = r.1.1.1.1.1.0 in
    record {
      sps-finite = s.is;
      sps-low = s.low;
      sps-high = s.high;
      dev-finite = d.is;
      dev-low = d.low;
      dev-high = d.high;
      lim_is = sym (ap (λ (q : Params). q.lim) e);
      kp-finite = subst (λ (q : Params). T (finite q.kp)) e (and_l (finite kp) (finite ki) g);
      ki-finite = subst (λ (q : Params). T (finite q.ki)) e (and_r (finite kp) (finite ki) g);
    }
