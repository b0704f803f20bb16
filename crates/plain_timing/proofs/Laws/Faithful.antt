-- L1: the records of both timing loops stand for their states faithfully. Assumes nothing.
use mathlib.Core.Path.{◌≡◌, refl, ap, sym, ◌∙◌, subst}
use Rattle.timing.specs.declared.params.Ted.{Ted}
use Rattle.timing.specs.declared.params.Params.{Params}
use Rattle.timing.specs.Run.{Sync}
use Rattle.timing.specs.Run as run
use Rattle.plain_timing.specs.declared.params.TimingParams.{TimingParams}
use Rattle.plain.specs.Faithful.{Faithful}
use Rattle.plain_timing.specs.Params.{params_of, params_record}
use Rattle.plain_timing.specs.Params as timing
use Rattle.plain_timing.specs.Real as real
use Rattle.plain_timing.specs.Complex as complex
use Rattle.plain.proofs.Laws.Codes.{detector-back, detector-below, detector-code-back}
use Prim.Native.Nat.{ℕ, ◌<◌}

-- ---- the parameters
-- parameters, and their record, with another detector
abbrev pub with_detector : Params → Ted → Params
with_detector p t = record { sps = p.sps; ted = t; loop_bw = p.loop_bw; damping = p.damping; max_deviation = p.max_deviation; ted_gain = p.ted_gain; kp = p.kp; ki = p.ki; lim = p.lim }

abbrev pub with_code : TimingParams → ℕ → TimingParams
with_code p n = record { sps = p.sps; ted = n; loop_bw = p.loop_bw; damping = p.damping; max_deviation = p.max_deviation; ted_gain = p.ted_gain; kp = p.kp; ki = p.ki; lim = p.lim }

pub params-back : (p : Params) → params_of (params_record p) ≡ p
params-back p = ap (with_detector p) (detector-back p.ted)

pub params-record-back : (p : TimingParams) → p.ted < 2 → params_record (params_of p) ≡ p
params-record-back p h = ap (with_code p) (detector-code-back p.ted h)

-- a state with other parameters
abbrev pub with_params : {A : Type 0} → Sync A → Params → Sync A
with_params s p = record { params = p; hist = s.hist; track = s.track }

-- ---- the states
-- over the sample type and its record: what `build` makes of parameters and a state has those parameters
-- and stands for that state
module _ {A R : Type 0} (params : R → TimingParams) (sync_of : R → Sync A) (build : TimingParams → Sync A → R) where
  abbrev record_of : Sync A → R
  record_of s = build (params_record s.params) s

  timing-faithful : ((p : TimingParams) (s : Sync A) → params (build p s) ≡ p) → ((p : TimingParams) (s : Sync A) → sync_of (build p s) ≡ with_params s (params_of p)) → ((x : R) → params_record (sync_of x).params ≡ params x → build (params_record (sync_of x).params) (sync_of x) ≡ x) → ((x : R) → (sync_of x).params ≡ params_of (params x))
      → Faithful sync_of record_of run.Given (λ x. timing.Given (sync_of x) (params x))
  timing-faithful has stands built whose = record {
    state-back = back;
    record-back = λ x g. built x (ap params_record (whose x) ∙ params-record-back (params x) g.detector);
    given_out = λ s g. record { state = subst run.Given (sym (back s)) g; detector = subst (λ (p : TimingParams). p.ted < 2) (sym (has (params_record s.params) s)) (detector-below s.params.ted) };
    given-in = λ x g. g.state;
  }
    where
      back : (s : Sync A) → sync_of (record_of s) ≡ s
      back s = stands (params_record s.params) s ∙ ap (with_params s) (params-back s.params)

pub real-faithful : Faithful real.sync_of real.record_of run.Given real.Given
real-faithful = timing-faithful (λ x. x.params) real.sync_of (λ p s. record { params = p; hist = (real.record_of s).hist; track = (real.record_of s).track }) (λ p s. refl) (λ p s. refl) (λ x e. λ j. record { params = e j; hist = x.hist; track = x.track }) (λ x. refl)

pub complex-faithful : Faithful complex.sync_of complex.record_of run.Given complex.Given
complex-faithful = timing-faithful (λ x. x.params) complex.sync_of (λ p s. record { params = p; hist = (complex.record_of s).hist; track = (complex.record_of s).track }) (λ p s. refl) (λ p s. refl) (λ x e. λ j. record { params = e j; hist = x.hist; track = x.track }) (λ x. refl)
