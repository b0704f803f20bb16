-- The carrier loop on a turned recording, from one symbol to a whole run: frequency, level and lock stay the same,
-- the phase stays m quarters on, and each output is turned. Assumes nothing.
use Rattle.std.proofs.Common.{◌≡◌, ℕ, ◌+◌, ◌*◌, ◌%◌, ◌^◌, ◌<◌, List, ◌∙◌, ap₂, arith}
use lib.Ieee.{Float, binary32}
use Rattle.ieee.specs.Alike.{Alike}
use Rattle.ieee.proofs.Laws.Like.{like-refl, like-add, like-mul-r}
use Rattle.values.specs.declared.sample.C32.{C32}
use Rattle.lists.specs.Each.{none, more}
use Rattle.values.specs.Turn.{Turned, AllTurned}
use Rattle.numbers.proofs.Laws.Denormal.{like-flush}
use Rattle.numbers.proofs.Laws.Range.{alike-limit}
use Rattle.cosine.specs.Table.{cos_list}
use Rattle.mix.specs.Oscillator.{pair_at}
use Rattle.mix.specs.Quarter.{quarters_on}
use Rattle.mix.proofs.Laws.Cosine.{cosine-quarter-turns}
use Rattle.modulate.proofs.Laws.Zeros.{same_step}
use Rattle.constellations.specs.declared.kinds.CostasConstellation.{CostasConstellation}
use Rattle.carrier.specs.declared.params.Params.{Params}
use Rattle.carrier.specs.declared.filter.Nco.{Nco}
use Rattle.carrier.specs.declared.symbol.Track.{Track}
use Rattle.constellations.specs.Octant.{decision_of}
use Rattle.detectors.specs.Lock.{metric_of}
use Rattle.carrier.specs.Filter.{new_freq, advanced}
use Rattle.carrier.specs.Step.{stepped, output_of, Symbols, runs}
use Rattle.detectors.specs.Turns.{Allowed}
use Rattle.detectors.proofs.Laws.Derotation.{turned-derotated}
use Rattle.detectors.proofs.Laws.Errors.{turned-error}
use Rattle.detectors.proofs.Laws.Levels.{AlikeLock, same-metric, alike-watched}

-- the oscillator o is n, m quarters on
pub record TiedNco (m : ℕ) (n o : Nco) : Type 0 where
  pub inside : n.phase < 2 ^ 32
  pub phase : o.phase ≡ quarters_on m n.phase
  pub freq : Alike o.freq n.freq

-- t is s on the turned recording, m quarters on
pub record Tied (m : ℕ) (s t : Track) : Type 0 where
  pub nco : TiedNco m s.nco t.nco
  pub lock : AlikeLock s.lock t.lock

-- ---- the loop filter, of errors that are alike
module _ (p : Params) {a b : Float} (e : Alike b a) where
  alike-freq : {f g : Float} → Alike g f → Alike (new_freq p g b) (new_freq p f a)
  unfolding new_freq
  alike-freq h = alike-limit (like-flush binary32 (like-add binary32 h (like-mul-r binary32 (like-refl p.ki) e))) (like-refl p.max)

  tied-advanced : {m : ℕ} {n o : Nco} → TiedNco m n o → TiedNco m (advanced p n a) (advanced p o b)
  unfolding advanced
  tied-advanced {m} {n} {o} h =
      let f = alike-freq h.freq in
      let s = same_step (like-add binary32 f (like-mul-r binary32 (like-refl p.kp) e)) in
      record { inside = omega arith; phase = ap₂ (λ (x i : ℕ). (x + i) % 2 ^ 32) h.phase s ∙ on n.phase m _; freq = f }
    where
      on : (x m i : ℕ) → ((x + m * 2 ^ 30) % 2 ^ 32 + i) % 2 ^ 32 ≡ ((x + i) % 2 ^ 32 + m * 2 ^ 30) % 2 ^ 32
      on x m i = omega arith

-- the symbols r are q on a recording turned k times, m quarters on
pub record TiedSymbols (k m : ℕ) (q r : Symbols) : Type 0 where
  pub values : AllTurned (k + 3 * m) q.values r.values
  pub last : Tied m q.last r.last

-- ---- a symbol
module _ (c : CostasConstellation) (p : Params) (k m : ℕ) (a : Allowed c k m) where
  tied-stepped : {s t : Track} (y : C32) {v : C32} → Tied m s t → Turned (k + 3 * m) y v → Tied m (stepped c p s y) (stepped c p t v)
  unfolding stepped
  tied-stepped {s} {t} y h q = record {
    nco = tied-advanced p (turned-error c k m a y q) h.nco;
    lock = rw (same-metric c k m a y q) (alike-watched (metric_of c y (decision_of c y)) h.lock);
  }

  turned-output : {s t : Track} (x : C32) {w : C32} → Tied m s t → Turned k x w → Turned (k + 3 * m) (output_of cos_list s x) (output_of cos_list t w)
  turned-output {s} x h q = turned-derotated k m x (pair_at cos_list s.nco.phase) q (rw h.nco.phase (cosine-quarter-turns m s.nco.phase h.nco.inside))

  -- ---- a run
  pub tied-runs : {s t : Track} {xs ys : List C32} → Tied m s t → AllTurned k xs ys → TiedSymbols k m (runs cos_list c p s xs) (runs cos_list c p t ys)
  unfolding runs
  tied-runs h none = record { values = none; last = h }
  tied-runs {s = s} {t = t} h (more {a = x} {b = w} q qs) =
      let y = turned-output x h q in
      let r = tied-runs {s = stepped c p s (output_of cos_list s x)} {t = stepped c p t (output_of cos_list t w)} (tied-stepped _ h y) qs in
      record { values = more y r.values; last = r.last }
