-- A9 and C22: a fresh state of an accepted set-up is given, and a given one stays so when its phase or its frequency
-- is set, and in a call, refused or not: each symbol leaves the phase in 32 bits and the frequency within its limit.
-- Assumes nothing.
use Rattle.std.proofs.Common.{ℕ, ◌^◌, ◌<◌, Bool, true, false, cond, not, T, eqb, List, [], ◌∷◌, length, mod-lt, lit<}
use lib.Ieee.{Float, binary32, neg, mul, le, is_nan}
use lib.Ieee.Scale.{finite}
use Rattle.ieee.specs.Notation.{zero₀}
use Rattle.ieee.proofs.Laws.Number.{not-nan→number, add-number, mul-number}
use Rattle.ieee.proofs.Laws.Order.{neg-le, neg-finite, le-trans-float, between}
use Rattle.values.specs.declared.error.Refusal.TheVariants.{Uneven, Odd}
use Rattle.values.specs.declared.sample.C32.{C32}
use Rattle.values.specs.Samples.{samples}
use Rattle.values.specs.Buffers.{odd_either}
use Rattle.numbers.specs.Denormal.{flushed}
use Rattle.numbers.specs.Narrowing.{narrowed}
use Rattle.numbers.specs.Range.{limited}
use Rattle.numbers.proofs.Laws.Denormal.{flush-number}
use Rattle.numbers.proofs.Laws.Range.{limit-in}
use Rattle.cosine.specs.Table.{cos_list}
use Rattle.constellations.specs.declared.kinds.CostasConstellation.{CostasConstellation}
use Rattle.carrier.specs.declared.filter.Nco.{Nco}
use Rattle.carrier.specs.declared.params.Params.{Params}
use Rattle.carrier.specs.declared.symbol.Track.{Track}
use Rattle.carrier.specs.declared.state.CostasState.{CostasState}
use Rattle.detectors.specs.Detector.{error_of}
use Rattle.detectors.proofs.Laws.Errors.{error-finite}
use Rattle.carrier.specs.Filter.{new_freq, advanced}
use Rattle.carrier.specs.Step.{output_of, stepped, runs}
use Rattle.carrier.specs.State.{fresh, phase_set, frequency_of, frequency_set, Given, Accepted}
use Rattle.carrier.specs.Run.{refused_call, done, called}
use Rattle.carrier.proofs.Laws.Setup.{Limits, limits}
use Rattle.carrier.proofs.Laws.Gains.{accepted-gains}

-- ---- what lies within the limit
abbrev Within : Float → Float → Type 0
Within x l = T (le (neg l) x) × T (le x l)

zero-within : (l : Float) → T (le zero₀ l) → Within zero₀ l
zero-within l h = (le-trans-float (neg l) (neg zero₀) zero₀ (neg-le zero₀ l h) (unfold neg le in tt), h)

-- a frequency that is set: a NaN counts as 0
set-within : (freq l : Float) → T (finite l) → T (le zero₀ l) → Within (frequency_of freq l) l
unfolding frequency_of
set-within freq l p h = let f = flushed binary32 (narrowed freq) in go (is_nan f) (λ u. limit-in f l (not-nan→number f u) p h)
  where
    go : (b : Bool) → (T (not b) → Within (limited (flushed binary32 (narrowed freq)) l) l) → Within (cond b zero₀ (limited (flushed binary32 (narrowed freq)) l)) l
    go true k = zero-within l h
    go false k = k tt

-- ---- a set-up or a reset, and the setters
pub fresh-given : (c : CostasConstellation) (p : Params) → Accepted c p → Given (fresh c p)
fresh-given c p e =
    let z = zero-within p.max (limits c p e).max-low in
    record { accepted = e; phase-in = lit< tt; freq-low = z.0; freq-high = z.1 }

pub phase_set-given : (s : CostasState) (phase : ℕ) → phase < 2 ^ 32 → Given s → Given (phase_set s phase)
phase_set-given s phase h g = record { accepted = g.accepted; phase-in = h; freq-low = g.freq-low; freq-high = g.freq-high }

pub frequency_set-given : (s : CostasState) (freq : Float) → Given s → Given (frequency_set s freq)
frequency_set-given s freq g =
    let l = limits s.constellation s.params g.accepted in
    let w = set-within freq s.params.max l.max-finite l.max-low in
    record { accepted = g.accepted; phase-in = g.phase-in; freq-low = w.0; freq-high = w.1 }

-- ---- a symbol
pub record Kept (p : Params) (n : Nco) : Type 0 where
  pub phase-in : n.phase < 2 ^ 32
  pub freq-low : T (le (neg p.max) n.freq)
  pub freq-high : T (le n.freq p.max)

advanced-kept : (p : Params) (n : Nco) (e : Float) → T (finite p.max) → T (le zero₀ p.max) → T (finite p.ki) → T (finite e) → T (finite n.freq) → Kept p (advanced p n e)
unfolding advanced new_freq
advanced-kept p n e m z k q h =
    let t = add-number binary32 n.freq (mul binary32 p.ki e) h (mul-number binary32 p.ki e k q) in
    let w = limit-in _ p.max (flush-number binary32 _ t) m z in
    record { phase-in = mod-lt _ (lit< tt); freq-low = w.0; freq-high = w.1 }

pub stepped_kept : (c : CostasConstellation) (p : Params) (t : Track) (y : C32) → Limits p → Kept p t.nco → Kept p (stepped c p t y).nco
unfolding stepped
stepped_kept c p t y l k =
    let h = between (neg p.max) t.nco.freq p.max (neg-finite p.max l.max-finite) l.max-finite k.freq-low k.freq-high in
    advanced-kept p t.nco (error_of c y) l.max-finite l.max-low (accepted-gains p l).1 (error-finite c y) h

-- ---- a run
pub runs-kept : (table : List Float) (c : CostasConstellation) (p : Params) (t : Track) (xs : List C32) → Limits p → Kept p t.nco → Kept p (runs table c p t xs).last.nco
unfolding runs
runs-kept table c p t [] l k = k
runs-kept table c p t (x ∷ xs) l k = let y = output_of table t x in runs-kept table c p (stepped c p t y) xs l (stepped_kept c p t y l k)

pub done-given : (s : CostasState) (xs : List Float) → Given s → Given (done s xs).state
done-given s xs g =
    let l = limits s.constellation s.params g.accepted in
    let k = runs-kept cos_list s.constellation s.params s.track (samples xs) l (record { phase-in = g.phase-in; freq-low = g.freq-low; freq-high = g.freq-high }) in
    record { accepted = g.accepted; phase-in = k.phase-in; freq-low = k.freq-low; freq-high = k.freq-high }

pub called-given : (s : CostasState) (xs ys : List Float) → Given s → Given (called s xs ys).state
unfolding called
called-given s xs ys g = go (odd_either xs ys) (eqb (length xs) (length ys))
  where
    go : (a b : Bool) → Given (cond a (refused_call Odd s ys) (cond b (done s xs) (refused_call Uneven s ys))).state
    go true b = g
    go false true = done-given s xs g
    go false false = g
