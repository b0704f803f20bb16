-- The loop over the symbols: what the definition makes of the rest of the input, stored behind what is done, is what
-- it makes of the whole. Assumes nothing.
use mathlib.Core.Path.{◌≡◌, refl, sym, ap, ◌∙◌, subst}
use Prim.Native.Nat.{ℕ, suc, ◌+◌, ◌*◌, ◌/◌, ◌≤◌, ◌<◌, min}
use native.Mathlib.Nat.{zero-add}
use native.Mathlib.Numerals.{add-one}
use native.Mathlib.Omega.{arith}
use mathlib.Core.Bool.{Bool, true, false, cond}
use mathlib.Core.List.{List, [], ◌∷◌}
use lib.Dec.{ltb}
use lib.ListN.{length, get_or, drop, length-take, drop_of_length-le}
use lib.Seq.{sets, sets-eq, length-sets, drop-cons, get_or-take}
use lib.Ieee.{Float}
use Rattle.values.specs.declared.sample.C32.{C32}
use Rattle.values.specs.Samples.{silence, samples, parts, stored}
use Rattle.values.specs.Buffers.{written}
use Rattle.values.proofs.Laws.Samples.{length-samples, samples-take, length-parts, stored-sets, parts_none, parts-some}
use Rattle.constellations.specs.declared.kinds.CostasConstellation.{CostasConstellation}
use Rattle.carrier.specs.declared.params.Params.{Params}
use Rattle.carrier.specs.declared.symbol.Track.{Track}
use Rattle.carrier.specs.Step.{stepped, output_of, Symbols, runs}
use Rattle.carrier.proofs.Laws.Count.{runs-count}
use Rattle.costas.specs.Answered.{reached}

-- a value first
abbrev more : C32 → Symbols → Symbols
more y r = record { values = y ∷ r.values; last = r.last }

module _ (table : List Float) (c : CostasConstellation) (p : Params) where
  runs_none : (t : Track) → runs table c p t [] ≡ record { values = []; last = t }
  unfolding runs
  runs_none t = refl

  runs-turn : (t : Track) (l : List C32) (k : ℕ) → k < length l
      → runs table c p t (drop k l) ≡ more (output_of table t (get_or l k silence)) (runs table c p (stepped c p t (output_of table t (get_or l k silence))) (drop (k + 1) l))
  unfolding runs
  runs-turn t l k h = ap (runs table c p t) (drop-cons l k silence h ∙ ap (λ (i : ℕ). get_or l k silence ∷ drop i l) (sym (add-one k)))

-- what is stored of the symbols r, from sample k on
abbrev shown : List Float → ℕ → Symbols → List Float
shown ys k r = sets ys (2 * k) (parts r.values)

-- a value first is that value stored
shown-more : (ys : List Float) (k : ℕ) (y : C32) (r : Symbols) → k < length ys / 2 → shown ys k (more y r) ≡ shown (stored ys k y) (k + 1) r
shown-more ys k y r h =
    let e : suc (suc (2 * k)) ≡ 2 * (k + 1) = omega arith in
    ap (sets ys (2 * k)) (parts-some y r.values)
    ∙ ap (λ (i : ℕ). sets (sets ys (2 * k) (y.re ∷ y.im ∷ [])) i (parts r.values)) e
    ∙ ap (λ (l : List Float). sets l (2 * (k + 1)) (parts r.values)) (sym (stored-sets ys k y h))

stored-length : (ys : List Float) (k : ℕ) (y : C32) → length (stored ys k y) ≡ length ys
stored-length ys k y = by (ltb k (length ys / 2))
  where
    by : (b : Bool) → length (cond b (sets ys (2 * k) (y.re ∷ y.im ∷ [])) ys) ≡ length ys
    by true = length-sets ys (2 * k) (y.re ∷ y.im ∷ [])
    by false = refl

-- ---- the invariant: k of the n symbols l are done, with the track t and the output ys
pub record Underway (table : List Float) (c : CostasConstellation) (p : Params) (l : List C32) (n : ℕ) (t₀ : Track) (ys₀ : List Float) (t : Track) (ys : List Float) (k : ℕ) : Type 0 where
  pub count : length l ≡ n
  pub room : length ys ≡ length ys₀
  pub room₀ : n ≤ length ys₀ / 2
  pub last : (runs table c p t (drop k l)).last ≡ (runs table c p t₀ l).last
  pub shows : shown ys k (runs table c p t (drop k l)) ≡ shown ys₀ 0 (runs table c p t₀ l)

reached-count : (xs ys : List Float) → length (reached xs ys) ≡ min (length xs / 2) (length ys / 2)
reached-count xs ys = ap length (samples-take (length ys / 2) xs) ∙ length-take (length ys / 2) (samples xs) ∙ omega (arith, length-samples xs)

-- the sample that the loop reads is one of them
pub reached-read : (xs ys : List Float) (k : ℕ) → k < length (reached xs ys) → {x : C32} → x ≡ get_or (samples xs) k silence → x ≡ get_or (reached xs ys) k silence
reached-read xs ys k h e =
    let m = length ys / 2 in
    e ∙ sym (get_or-take m (samples xs) k silence (omega (arith, reached-count xs ys))) ∙ ap (λ (l : List C32). get_or l k silence) (sym (samples-take m xs))

module _ {table : List Float} {c : CostasConstellation} {p : Params} {n : ℕ} {t₀ : Track} {ys₀ : List Float} where
  pub begins : (xs : List Float) → n ≡ min (length xs / 2) (length ys₀ / 2) → Underway table c p (reached xs ys₀) n t₀ ys₀ t₀ ys₀ 0
  begins xs e = record { count = reached-count xs ys₀ ∙ sym e; room = refl; room₀ = omega arith; last = refl; shows = refl }

  module _ {l : List C32} {t : Track} {ys : List Float} {k : ℕ} (u : Underway table c p l n t₀ ys₀ t ys k) where
    -- the output y of the sample x is stored, and v is the track after it
    pub goes_on : k < n → {x : C32} → x ≡ get_or l k silence → {y : C32} → y ≡ output_of table t x → {v : Track} → v ≡ stepped c p t y → {zs : List Float} → zs ≡ stored ys k y → Underway table c p l n t₀ ys₀ v zs (k + 1)
    goes_on left {x} e {y} f {v} g {zs} h =
        record {
          count = u.count;
          room = ap length h ∙ stored-length ys k y ∙ u.room;
          room₀ = u.room₀;
          last = ap (λ (r : Symbols). r.last) (sym step) ∙ u.last;
          shows = ap (λ (m : List Float). shown m (k + 1) rest) h ∙ sym (shown-more ys k y rest (let a = u.room in let b = u.room₀ in omega arith)) ∙ ap (shown ys k) (sym step) ∙ u.shows;
        }
      where
        rest : Symbols
        rest = runs table c p v (drop (k + 1) l)

        step : runs table c p t (drop k l) ≡ more y rest
        step =
            runs-turn table c p t l k (let a = u.count in omega arith)
            ∙ ap (λ (z : C32). more (output_of table t z) (runs table c p (stepped c p t (output_of table t z)) (drop (k + 1) l))) (sym e)
            ∙ ap (λ (z : C32). more z (runs table c p (stepped c p t z) (drop (k + 1) l))) (sym f)
            ∙ ap (λ (w : Track). more y (runs table c p w (drop (k + 1) l))) (sym g)

    all_done : n ≤ k → (t ≡ (runs table c p t₀ l).last) × (ys ≡ written (parts (runs table c p t₀ l).values) ys₀)
    all_done full =
        let none = drop_of_length-le l {i = k} (let a = u.count in omega arith) in
        let e = ap (runs table c p t) none ∙ runs_none table c p t in
        let vs = parts (runs table c p t₀ l).values in
        let z : 0 + length vs ≤ length ys₀ = (let a = length-parts (runs table c p t₀ l).values in let b = runs-count table c p t₀ l in let d = u.count in let f = u.room₀ in omega arith) in (
          sym (ap (λ (r : Symbols). r.last) e) ∙ u.last,
          sym (ap (shown ys k) e ∙ ap (sets ys (2 * k)) parts_none) ∙ u.shows ∙ (rw zero-add at (sets-eq vs ys₀ 0 z)),
        )

    -- all symbols are done, with the table that `list` is
    pub ends : n ≤ k → {list : List Float} → table ≡ list → (t ≡ (runs list c p t₀ l).last) × (ys ≡ written (parts (runs list c p t₀ l).values) ys₀)
    ends full e = subst (λ (m : List Float). (t ≡ (runs m c p t₀ l).last) × (ys ≡ written (parts (runs m c p t₀ l).values) ys₀)) e (all_done full)
