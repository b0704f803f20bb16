-- Q10, for the carrier alone: turned inputs and a phase set by quarters give the same numbers, frequency, level and
-- lock, and turned outputs, over a list of calls of any length. Assumes nothing.
use Rattle.std.proofs.Common.{◌≡◌, ℕ, ◌+◌, ◌*◌, ◌%◌, ◌^◌, ◌≤◌, Bool, true, false, cond, not, ◌&&◌, ◌||◌, eqb, List, length, sym, refl, subst, ap₂, arith}
use lib.Ieee.{Float}
use Rattle.ieee.specs.Notation.{zero₀}
use Rattle.ieee.proofs.Laws.Like.{like-refl}
use Rattle.values.specs.declared.sample.C32.{C32}
use Rattle.values.specs.declared.error.Refusal.TheVariants.{Uneven, Odd}
use Rattle.values.specs.Samples.{samples}
use Rattle.lists.specs.Each.{Each, none, more}
use Rattle.values.specs.Turn.{AllTurned, Turned}
use Rattle.values.proofs.Laws.Calls.{lists-keep}
use Rattle.values.proofs.Laws.Samples.{samples-parts}
use Rattle.values.proofs.Laws.Turn.{turned-mod}
use Rattle.values.specs.Buffers.{odd_either}
use Rattle.values.specs.TurnedCall.{Call, TurnedCall}
use Rattle.constellations.specs.declared.kinds.CostasConstellation.{CostasConstellation}
use Rattle.carrier.specs.declared.params.Params.{Params}
use Rattle.carrier.specs.declared.state.CostasState.{CostasState}
use Rattle.carrier.specs.State.{fresh, phase_set}
use Rattle.carrier.specs.Run.{Outcome, refused_call, symbols, done, called}
use Rattle.detectors.specs.Turns.{Allowed}
use Rattle.carrier.specs.Calls.{call_of, left_by, whole, turns_less, TurnedOutcome, SameCarrier, TurnedList}
use Rattle.carrier.proofs.Laws.TurnedRun.{Tied, TiedSymbols, tied-runs}

-- a call keeps the constellation
called-constellation : (s : CostasState) (xs ys : List Float) → (called s xs ys).state.constellation ≡ s.constellation
unfolding called
called-constellation s xs ys = by (odd_either xs ys) (eqb (length xs) (length ys))
  where
    by : (o e : Bool) → (cond {A = Outcome} o (refused_call Odd s ys) (cond e (done s xs) (refused_call Uneven s ys))).state.constellation ≡ s.constellation
    by true e = refl
    by false true = refl
    by false false = refl

-- ---- a state
pub record TiedState (m : ℕ) (s t : CostasState) : Type 0 where
  pub constellation : t.constellation ≡ s.constellation
  pub params : t.params ≡ s.params
  pub track : Tied m s.track t.track

-- fresh, the second with its phase set
pub tied-fresh : (c : CostasConstellation) (p : Params) (m : ℕ) → m ≤ 3 → TiedState m (fresh c p) (phase_set (fresh c p) (m * 2 ^ 30))
tied-fresh c p m h = record {
  constellation = refl;
  params = refl;
  track = record { nco = record { inside = omega arith; phase = omega arith; freq = like-refl zero₀ }; lock = record { level = like-refl zero₀; locked = refl } };
}

pub same-carrier : {m : ℕ} {s t : CostasState} → TiedState m s t → SameCarrier m s t
same-carrier h = record { frequency = h.track.nco.freq; level = h.track.lock.level; lock = h.track.lock.locked; phase = h.track.nco.phase }

-- ---- a call
pub record TiedOutcome (k m : ℕ) (q r : Outcome) : Type 0 where
  pub answer : TurnedOutcome (turns_less k m) q r
  pub state : TiedState m q.state r.state

turned-less : (k m : ℕ) → m ≤ 3 → {l n : List C32} → AllTurned (k + 3 * m) l n → AllTurned (turns_less k m) l n
turned-less k m h none = none
turned-less k m h (more {a = z} {b = v} p ps) =
    let e : (k + 3 * m) % 4 ≡ turns_less k m = omega arith in
    more (subst (λ (j : ℕ). Turned j z v) e (turned-mod (k + 3 * m) z v p)) (turned-less k m h ps)

module _ (k m : ℕ) (small : m ≤ 3) where
  pub tied-done : {s t : CostasState} (xs ws : List Float) → Allowed s.constellation k m → TiedState m s t → AllTurned k (samples xs) (samples ws) → TiedOutcome k m (done s xs) (done t ws)
  tied-done {s} {t} xs ws a h r =
      let q : TiedSymbols k m (symbols s xs) (symbols t ws) = rw (h.constellation, h.params) (tied-runs s.constellation s.params k m a h.track r) in
      record {
        answer = record { number = refl; turned = λ z. rw (samples-parts (symbols s xs).values, samples-parts (symbols t ws).values) (turned-less k m small q.values) };
        state = record { constellation = h.constellation; params = h.params; track = q.last };
      }

  -- a call, by whether a count is odd and whether the counts are equal
  abbrev called_by : Bool → Bool → CostasState → Call → Outcome
  called_by odd even s c = cond odd (refused_call Odd s c.output) (cond even (done s c.input) (refused_call Uneven s c.output))

  tied-call : {s t : CostasState} {c d : Call} → Allowed s.constellation k m → TiedState m s t → TurnedCall whole k c d → TiedOutcome k m (called s c.input c.output) (called t d.input d.output)
  unfolding called
  tied-call {s} {t} {c} {d} a h r =
      let odd = ap₂ (λ (i o : ℕ). eqb (i % 2) 1 || eqb (o % 2) 1) r.inputs r.outputs in
      let even = ap₂ eqb r.inputs r.outputs in
      subst (λ (b : Bool). TiedOutcome k m (called s c.input c.output) (called_by b (eqb (length d.input) (length d.output)) t d)) (sym odd)
      (subst (λ (b : Bool). TiedOutcome k m (called s c.input c.output) (called_by (odd_either c.input c.output) b t d)) (sym even)
      (by (odd_either c.input c.output) (eqb (length c.input) (length c.output)) r.turned))
    where
      by : (o e : Bool) → ((not o && e) ≡ true → AllTurned k (samples c.input) (samples d.input)) → TiedOutcome k m (called_by o e s c) (called_by o e t d)
      by true e f = record { answer = record { number = refl; turned = λ z. absurd (omega arith) }; state = h }
      by false true f = tied-done c.input d.input a h (f refl)
      by false false f = record { answer = record { number = refl; turned = λ z. absurd (omega arith) }; state = h }

-- ---- a list of calls
-- what a call keeps: the states stay tied, and the constellation is one that the turns are allowed for
record TiedFor (k m : ℕ) (s t : CostasState) : Type 0 where
  allowed : Allowed s.constellation k m
  tied : TiedState m s t

keeps : (k m : ℕ) → m ≤ 3 → (s t : CostasState) (c d : Call) → TiedFor k m s t → TurnedCall whole k c d → TurnedOutcome (turns_less k m) (call_of s c) (call_of t d) × TiedFor k m (left_by (call_of s c)) (left_by (call_of t d))
keeps k m h s t c d r q =
    let o = tied-call k m h r.allowed r.tied q in
    (o.answer, record { allowed = subst (λ (x : CostasConstellation). Allowed x k m) (sym (called-constellation s c.input c.output)) r.allowed; tied = o.state })

-- Q10: from fresh states, the second with its phase set to m × 2^30
pub turned-calls : (c : CostasConstellation) (p : Params) (k m : ℕ) → m ≤ 3 → Allowed c k m → (cs ds : List Call) → Each (TurnedCall whole k) cs ds → TurnedList k m (fresh c p) (phase_set (fresh c p) (m * 2 ^ 30)) cs ds
turned-calls c p k m h a cs ds r =
    let q = lists-keep call_of left_by (keeps k m h) (record { allowed = a; tied = tied-fresh c p m h }) r in
    record { answers = q.0; carriers = same-carrier q.1.tied }
