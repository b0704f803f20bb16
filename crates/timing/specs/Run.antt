-- A whole run over any sample type, a set-up's answer and a fresh state; and a call on real and on complex samples
-- in slices of f32. Definitions only.
use Rattle.std.specs.Prelude.{ℕ, ◌+◌, ◌/◌, true, false, cond, T, List, ◌∷◌, length, slice_index_or, Float, Result, Ok, Err}
use Rattle.values.specs.declared.sample.C32.{C32}
use Rattle.values.specs.declared.error.Refusal.{Refusal}
use Rattle.values.specs.declared.error.Refusal.TheVariants.{Odd}
use Rattle.values.specs.Refusal.{number_of}
use Rattle.values.specs.Samples.{samples, parts}
use Rattle.values.specs.Buffers.{odd_either, written}
use Rattle.timing.specs.declared.params.Params.{Params}
use Rattle.timing.specs.declared.state.Hist as declaredHist
use Rattle.timing.specs.declared.state.SymbolSyncState.{SymbolSyncState}
use Rattle.timing.specs.Setup.{Tuning}
use Rattle.timing.specs.Sample.{Ops, real, complex}
use Rattle.timing.specs.Clock.{fresh_clock}
use Rattle.timing.specs.Loop.{Track, lacks, runs, consumed, track_back}
use Rattle.timing.specs.Given.{Running}

-- ---- the state
-- T5: the three samples of the history, oldest first
abbrev pub Hist : Type 0 → Type 0
Hist A = declaredHist.Hist A

-- T5: the state of a loop
abbrev pub Sync : Type 0 → Type 0
Sync A = SymbolSyncState A

-- what holds of a track while a run loops, with n samples of input
abbrev pub TrackRunning : {A : Type 0} → Params → ℕ → Track A → Type 0
TrackRunning p n t = Running p t.clock (lacks p t) n

-- A9: a state that a set-up, a reset or a run has given: all that a public call requires
abbrev pub Given : {A : Type 0} → Sync A → Type 0
Given s = TrackRunning s.params 0 s.track

-- T6: the state after a set-up or a reset
abbrev pub fresh : {A : Type 0} → Ops A → Params → Sync A
fresh o p =
    let z = o.zero in
    record {
      params = p;
      hist = record { a = z; b = z; c = z };
      track = record { clock = fresh_clock p.sps; y_prev = z; d_prev = z; mid = z; mid_ready = false; started = false };
    }

-- A6: a set-up's answer, which has a state only if it is accepted
abbrev pub Opening : Type 0 → Type 0
Opening A = Result (Sync A) Refusal

-- T4: a set-up's answer, by what its checks say
abbrev pub opened_by : {A : Type 0} → Ops A → Tuning → Opening A
opened_by o (Ok p) = Ok (fresh o p)
opened_by o (Err n) = Err n

-- K7: its number (0: accepted)
abbrev pub opening_number : {A : Type 0} → Opening A → ℕ
opening_number (Ok s) = 0
opening_number (Err n) = number_of n

abbrev pub OpeningGiven : {A : Type 0} → Opening A → Type 0
OpeningGiven (Ok s) = Given s
OpeningGiven (Err n) = T true

-- ---- a run over the input xs, with `places` output places
-- T7: the history, with the input behind it
abbrev pub line : {A : Type 0} → Hist A → List A → List A
line h xs = h.a ∷ h.b ∷ h.c ∷ xs

-- T20: the new history, from index k on
unfoldable pub hist_at : {A : Type 0} → Ops A → List A → ℕ → Hist A
hist_at o l k = record { a = slice_index_or l k o.zero; b = slice_index_or l (k + 1) o.zero; c = slice_index_or l (k + 2) o.zero }

-- the state after a run, the count consumed and the strobes
pub record Ran (A : Type 0) : Type 0 where
  pub state : Sync A
  pub taken : ℕ
  pub values : List A

-- T9, T19, T20: a whole run, from the strobes to the state that it leaves
unfoldable pub ran : {A : Type 0} → Ops A → Sync A → List A → ℕ → Ran A
ran o s xs places =
    let l = line s.hist xs in
    let r = runs o s.params l places s.track in
    let k = consumed s.params r.last (length xs) in
    record { state = record { params = s.params; hist = hist_at o l k; track = track_back r.last k }; taken = k; values = r.values }

-- ---- K1: the outcome of a call: its number (0: done), its counts, the state, and what the output holds
pub record Outcome (A : Type 0) : Type 0 where
  pub number : ℕ
  pub consumed : ℕ
  pub produced : ℕ
  pub state : Sync A
  pub output : List Float

-- what a run gives, its values stored as `slice` has them
abbrev pub done : {A : Type 0} → (List A → List Float) → Ran A → List Float → Outcome A
done slice r ys = record { number = 0; consumed = r.taken; produced = length r.values; state = r.state; output = written (slice r.values) ys }

-- T1: a call on real samples, which is never refused
unfoldable pub called_real : Sync Float → List Float → List Float → Outcome Float
called_real s xs ys = done (λ vs. vs) (ran real s xs (length ys)) ys

-- A7: a call that is refused with n
abbrev pub refused_call : {A : Type 0} → Refusal → Sync A → List Float → Outcome A
refused_call n s ys = record { number = number_of n; consumed = 0; produced = 0; state = s; output = ys }

-- T27: a call that is not refused
abbrev pub done_complex : Sync C32 → List Float → List Float → Outcome C32
done_complex s xs ys = done parts (ran complex s (samples xs) (length ys / 2)) ys

-- T1: a call on complex samples; an odd buffer is refused
unfoldable pub called_complex : Sync C32 → List Float → List Float → Outcome C32
called_complex s xs ys = cond (odd_either xs ys) (refused_call Odd s ys) (done_complex s xs ys)
