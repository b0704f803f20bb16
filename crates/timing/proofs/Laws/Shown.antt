-- What a run shows over a buffer, for any sample type: the invariant of the loops that store its values one by one,
-- its turns, and what it says at the end. Assumes nothing.
use Rattle.std.proofs.Common.{◌≡◌, ℕ, suc, ◌+◌, ◌-◌, ◌*◌, ◌^◌, ◌<◌, ◌≤◌, Bool, true, false, not, ◌&&◌, leb, List, [], ◌∷◌, ◌++◌, length, sym, refl, ap, ◌∙◌, subst, append_assoc, mul-le-mul_left, zero-add, mul-suc, arith, length-append}
use mathlib.Core.Bool.{not-not}
use native.Mathlib.Nat.{sub-zero}
use lib.Seq.{sets, sets-eq, length-sets}
use lib.Ieee.{Float}
use Rattle.lists.proofs.Laws.Stores.{sets-append}
use Rattle.values.specs.Buffers.{written}
use Rattle.timing.specs.declared.params.Params.{Params}
use Rattle.timing.specs.Sample.{Ops}
use Rattle.timing.specs.Form.{Form}
use Rattle.timing.specs.FormLaws.{FormLaws}
use Rattle.timing.specs.Given.{GivenStrobe}
use Rattle.timing.specs.Loop.{Track, Strobes, lacks, mid_taken, strobed, ready, stopped, more, runs}
use Rattle.timing.specs.Run.{TrackRunning}
use Rattle.timing.proofs.Laws.Loop.{value_here, runs-turn, runs-stop, runs-full, runs-count, ready-leb, ready-window, ready-strobe, mid_taken-running, strobed-running}

module _ {A : Type 0} {m : Form A} (keeps : FormLaws m) where
  pub length-slice : (vs : List A) → length (m.slice vs) ≡ m.width * length vs
  length-slice [] = ap length keeps.none ∙ omega arith
  length-slice (y ∷ l) = ap length (keeps.some y l) ∙ length-append (m.floats y) (m.slice l) ∙ (let a = keeps.wide y in let b = length-slice l in let c = mul-suc m.width (length l) in omega arith)

  pub slice-append : (vs ws : List A) → m.slice (vs ++ ws) ≡ m.slice vs ++ m.slice ws
  slice-append [] ws = ap (λ (l : List Float). l ++ m.slice ws) (sym keeps.none)
  slice-append (v ∷ vs) ws =
      keeps.some v (vs ++ ws)
      ∙ ap (λ (l : List Float). m.floats v ++ l) (slice-append vs ws)
      ∙ sym (append_assoc (m.floats v) (m.slice vs) (m.slice ws))
      ∙ ap (λ (l : List Float). l ++ m.slice ws) (sym (keeps.some v vs))

-- ---- what a run shows from place k on, over a buffer ys
pub record Shown (A : Type 0) : Type 0 where
  pub last : Track A
  pub produced : ℕ
  pub output : List Float

abbrev pub shown : {A : Type 0} → Form A → ℕ → List Float → Strobes A → Shown A
shown m k ys r = record { last = r.last; produced = k + length r.values; output = sets ys (m.width * k) (m.slice r.values) }

-- a value first is that value stored
shown-more : {A : Type 0} {m : Form A} (keeps : FormLaws m) (k : ℕ) (ys : List Float) (y : A) (r : Strobes A) → shown m k ys (more y r) ≡ shown m (k + 1) (sets ys (m.width * k) (m.floats y)) r
shown-more {m = m} keeps k ys y r =
    let e : k + suc (length r.values) ≡ k + 1 + length r.values = omega arith in
    let h : m.width * k + length (m.floats y) ≡ m.width * (k + 1) = (let a = keeps.wide y in let b = mul-suc m.width k in omega arith) in
    let g = ap (sets ys (m.width * k)) (keeps.some y r.values) ∙ sets-append ys (m.width * k) (m.floats y) (m.slice r.values) ∙ ap (λ (i : ℕ). sets (sets ys (m.width * k) (m.floats y)) i (m.slice r.values)) h in
    λ j. record { last = r.last; produced = e j; output = g j }

-- ---- the invariant: k of q places are done, with the track s and the buffer ys; what the definition shows from here
-- is what it shows from the start
pub record Underway {A : Type 0} (o : Ops A) (m : Form A) (p : Params) (l : List A) (n q : ℕ) (s₀ : Track A) (ys₀ : List Float) (s : Track A) (ys : List Float) (k : ℕ) : Type 0 where
  pub long : length l ≡ n + 3
  pub input-small : n < 2 ^ 63
  -- a place has 4 bytes or more
  pub output-small : q < 2 ^ 61
  pub room : m.width * q ≤ length ys₀
  pub same : length ys ≡ length ys₀
  pub done : k ≤ q
  pub running : TrackRunning p n s
  pub shows : shown m k ys (runs o p l (q - k) s) ≡ shown m 0 ys₀ (runs o p l q s₀)

-- what a run over q places ends with: its last track, how many values there are, and the values
-- before the rest of the buffer
abbrev pub Ended : {A : Type 0} → Form A → Strobes A → List Float → Track A → ℕ → List Float → Type 0
Ended m r ys₀ t k ys = (t ≡ r.last) × ((k ≡ length r.values) × (ys ≡ written (m.slice r.values) ys₀))

-- nothing is left to show
ends : {A : Type 0} {m : Form A} (keeps : FormLaws m) (r : Strobes A) (ys₀ : List Float) (t : Track A) (k : ℕ) (ys : List Float) → m.width * length r.values ≤ length ys₀ → shown m k ys (stopped t) ≡ shown m 0 ys₀ r → Ended m r ys₀ t k ys
ends {A} {m} keeps r ys₀ t k ys room e =
    let v = m.slice r.values in
    let z : 0 + length v ≤ length ys₀ = (let a = length-slice keeps r.values in omega arith) in
    let w : m.width * 0 ≡ 0 = omega arith in
    let n = ap (λ (x : Shown A). x.produced) e in (
      ap (λ (x : Shown A). x.last) e,
      (
        omega arith,
        sym (ap (sets ys (m.width * k)) keeps.none) ∙ ap (λ (x : Shown A). x.output) e ∙ ap (λ (i : ℕ). sets ys₀ i v) w ∙ (rw zero-add at (sets-eq v ys₀ 0 z)),
      ),
    )

module _ {A : Type 0} {o : Ops A} {m : Form A} (keeps : FormLaws m) {p : Params} {l : List A} {n q : ℕ} {s₀ : Track A} {ys₀ : List Float} where
  pub begins : length l ≡ n + 3 → n < 2 ^ 63 → q < 2 ^ 61 → m.width * q ≤ length ys₀ → TrackRunning p n s₀ → Underway o m p l n q s₀ ys₀ s₀ ys₀ 0
  begins long i j room g = record { long = long; input-small = i; output-small = j; room = room; same = refl; done = omega arith; running = g; shows = rw sub-zero }

  module _ {s : Track A} {ys : List Float} {k : ℕ} (u : Underway o m p l n q s₀ ys₀ s ys k) where
    fits : m.width * length (runs o p l q s₀).values ≤ length ys₀
    fits = let a = mul-le-mul_left m.width (runs-count o p l q s₀) in let b = u.room in omega arith

    -- all places are full
    pub ends-full : q ≤ k → Ended m (runs o p l q s₀) ys₀ s k ys
    ends-full f = ends keeps (runs o p l q s₀) ys₀ s k ys fits (ap (shown m k ys) (sym (runs-full o p l q k s f)) ∙ u.shows)

    -- ---- a turn: t is the track with the middle taken; `lacking` and `can` are what `lacks` and `can_strobe` answer
    module _ {t : Track A} {lacking can : Bool} (mid : t ≡ mid_taken o p l s) (lacks-it : lacking ≡ lacks p t) (test : can ≡ (not lacking && leb t.clock.i n)) where
      mid-running : TrackRunning p n t
      mid-running = subst (TrackRunning p n) (sym mid) (mid_taken-running o p l n u.long s u.running)

      tells : {b : Bool} → not can ≡ b → ready p l t ≡ not b
      tells h = ready-leb p l n u.long t ∙ ap (λ (b : Bool). not b && leb t.clock.i n) (sym lacks-it) ∙ sym test ∙ sym (not-not can) ∙ ap not h

      -- what the value and the strobe ask
      pub turn-window : not can ≡ false → (1 ≤ t.clock.i) × (t.clock.i ≤ n)
      turn-window h = ready-window p l n u.long t (tells h) mid-running

      pub turn-strobe : not can ≡ false → GivenStrobe p t.clock
      turn-strobe h = ready-strobe p l n u.long t (tells h) mid-running u.input-small

      -- the strobe y is stored, and v is the track after it
      pub goes_on : k < q → not can ≡ false → {y : A} → y ≡ value_here o l t → {v : Track A} → v ≡ strobed o p t y → {zs : List Float} → zs ≡ sets ys (m.width * k) (m.floats y) → Underway o m p l n q s₀ ys₀ v zs (k + 1)
      goes_on left h {y} e {v} f {zs} g =
          record {
            long = u.long;
            input-small = u.input-small;
            output-small = u.output-small;
            room = u.room;
            same = ap length g ∙ length-sets ys (m.width * k) (m.floats y) ∙ u.same;
            done = omega arith;
            running = subst (TrackRunning p n) (sym f) (strobed-running o p l n u.long t y (tells h) mid-running);
            shows =
                ap (λ (x : List Float). shown m (k + 1) x (runs o p l (q - (k + 1)) v)) g
                ∙ sym (shown-more keeps k ys y (runs o p l (q - (k + 1)) v))
                ∙ ap (λ (x : Track A). shown m k ys (more y (runs o p l (q - (k + 1)) x))) f
                ∙ ap (λ (x : A). shown m k ys (more x (runs o p l (q - (k + 1)) (strobed o p t x)))) e
                ∙ ap (shown m k ys) (sym step)
                ∙ u.shows;
          }
        where
          step : runs o p l (q - k) s ≡ more (value_here o l t) (runs o p l (q - (k + 1)) (strobed o p t (value_here o l t)))
          step = subst (λ (x : Track A). ready p l x ≡ true → runs o p l (q - k) s ≡ more (value_here o l x) (runs o p l (q - (k + 1)) (strobed o p x (value_here o l x)))) (sym mid) (runs-turn o p l q k s left) (tells h)

      -- the run stops here
      pub ends-stopped : k < q → not can ≡ true → Ended m (runs o p l q s₀) ys₀ t k ys
      ends-stopped left h =
          ends keeps (runs o p l q s₀) ys₀ t k ys fits
          (ap (shown m k ys) (subst (λ (x : Track A). ready p l x ≡ false → stopped x ≡ runs o p l (q - k) s) (sym mid) (λ r. sym (runs-stop o p l q k s left r)) (tells h))
          ∙ u.shows)
