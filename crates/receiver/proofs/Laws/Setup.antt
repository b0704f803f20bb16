-- R4: a set-up of the receiver is refused exactly if a row is not passed, with the first such row's reason; an
-- accepted one gives the fresh receiver of its values; and it answers what the two loops' set-ups answer,
-- timing's first. Assumes nothing.
use Rattle.std.specs.Prelude.{Ok, Err}
use mathlib.Core.Path.{◌≡◌, refl, sym, ap, ◌∙◌}
use Prim.Native.Nat.{ℕ}
use native.Mathlib.Omega.{arith}
use lib.Dec.{T}
use lib.Ieee.{binary64, neg, le, round}
use Rattle.ieee.specs.Notation.{zero₀, decimal}
use Rattle.values.specs.declared.sample.C32.{C32}
use Rattle.values.specs.declared.error.Refusal.{Refusal}
use Rattle.checks.specs.Range.{in_range}
use Rattle.checks.specs.Table.{first_of, Exactly}
use Rattle.checks.proofs.Laws.Rows.{first-append, first-map}
use Rattle.checks.proofs.Laws.Exactly.{exactly, accepted-is}
use Rattle.timing.specs.Setup.{tuned, Tuning}
use Rattle.timing.specs.Sample.{complex}
use Rattle.timing.specs.Run.{Sync, opened_by}
use Rattle.timing.specs.Run as run
use Rattle.complex_sync.specs.Views.{SymbolSyncState}
use Rattle.constellations.specs.declared.kinds.CostasConstellation.{CostasConstellation}
use Rattle.carrier.specs.State.{SetUp as CarrierSetUp}
use Rattle.carrier.specs.State as carrier
use Rattle.timing.specs.declared.params.TimingValues.{TimingValues}
use Rattle.carrier.specs.declared.params.CarrierValues.{CarrierValues}
use Rattle.receiver.specs.Record.{SetUp, Receiver, timing_params, carrier_params_of, fresh, timing_rows, carrier_rows, rows, opened, set_up_number}

-- ---- which set-up is refused, by its number: 2, 3 and 4 stand twice in the table
pub refused-exactly : (k : CostasConstellation) (t : TimingValues) (c : CarrierValues) → Exactly (set_up_number (opened k t c)) (rows t c)
unfolding opened
refused-exactly k t c = exactly set_up_number Err (λ n. refl) _ refl (rows t c)

-- a deviation and an offset of minus zero pass their rows
pub minus-zero-passes : T (in_range zero₀ (neg zero₀) (decimal binary64 5 100)) × T (in_range zero₀ (neg zero₀) (decimal binary64 25 100))
unfolding in_range neg le round
minus-zero-passes = (tt, tt)

-- ---- which is accepted
pub opened-is : (k : CostasConstellation) (t : TimingValues) (c : CarrierValues) (r : Receiver) → opened k t c ≡ Ok r → r ≡ fresh k (timing_params t) (carrier_params_of c)
unfolding opened
opened-is k t c r e = let f = fresh k (timing_params t) (carrier_params_of c) in let one = (accepted-is set_up_number Err (λ n. refl) (Ok f) refl (rows t c) (Ok r) refl e).1 in cc

-- ---- what the two set-ups answer, put together
-- with the timing state s
abbrev pub with_timing : SymbolSyncState → CarrierSetUp → SetUp
with_timing s (Ok c) = Ok (record { timing = s; carrier = c; count = 0 })
with_timing s (Err n) = Err n

abbrev pub joined_answer : Tuning → CarrierSetUp → SetUp
joined_answer (Ok p) a = with_timing (run.fresh complex p) a
joined_answer (Err n) a = Err n

abbrev pub tuned_by : TimingValues → Tuning
tuned_by t = tuned t.sps t.ted t.loop_bw t.damping t.max_deviation t.ted_gain

abbrev pub carrier_by : CostasConstellation → CarrierValues → CarrierSetUp
carrier_by k c = carrier.opened k c.loop_bw c.damping c.max_offset

pub opened-joined : (k : CostasConstellation) (t : TimingValues) (c : CarrierValues) → opened k t c ≡ joined_answer (tuned_by t) (carrier_by k c)
unfolding opened tuned carrier.opened
opened-joined k t c =
    let p = timing_params t in
    let q = Ok (carrier.fresh k (carrier_params_of c)) in
    let a = first_of Err (carrier_rows c) q in
    first-append Err (timing_rows t) (carrier_rows c) (joined_answer (Ok p) q)
    ∙ ap (first_of Err (timing_rows t)) (sym (first-map (joined_answer (Ok p)) Err (carrier_rows c) q))
    ∙ sym (first-map (λ (x : Tuning). joined_answer x a) Err (timing_rows t) (Ok p))

-- ---- by what timing's set-up answered
same-sync : (s u : Sync C32) → ◌≡◌ {A = run.Opening C32} (Ok s) (Ok u) → s ≡ u
same-sync s u e = cc

pub after-ready : (s : SymbolSyncState) (x : Tuning) (a : CarrierSetUp) → Ok s ≡ opened_by complex x → joined_answer x a ≡ with_timing s a
after-ready s (Ok p) a e = ap (λ (u : Sync C32). with_timing u a) (sym (same-sync _ _ e))
after-ready s (Err n) a e = let z : ◌≡◌ {A = ℕ} 0 1 = cc in absurd (omega arith)

pub after-refused : (n : Refusal) (x : Tuning) (a : CarrierSetUp) → Err n ≡ opened_by complex x → joined_answer x a ≡ Err n
after-refused n (Ok p) a e = let z : ◌≡◌ {A = ℕ} 0 1 = cc in absurd (omega arith)
after-refused n (Err m) a e = let h : m ≡ n = cc in ap Err h
