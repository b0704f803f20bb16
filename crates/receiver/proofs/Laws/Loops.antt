-- R25 to R27: one loop of a receiver by itself. Its set-up is refused exactly by its rows of the receiver's table;
-- timing's and then the carrier's, put together, are the receiver's set-up, numbers included; in either order the loops
-- make the same record; a loop that is put into a record replaces that loop alone. Assumes nothing.
use Rattle.std.specs.Prelude.{Ok, Err}
use mathlib.Core.Path.{◌≡◌, refl, sym, ap, ◌∙◌}
use Rattle.checks.specs.Table.{first_of, Exactly}
use Rattle.checks.proofs.Laws.Rows.{first-append, first-map}
use Rattle.checks.proofs.Laws.Exactly.{exactly, accepted-is}
use Rattle.timing.specs.Setup.{tuned}
use Rattle.timing.specs.Sample.{complex}
use Rattle.timing.specs.Run.{opened_by, OpeningGiven}
use Rattle.timing.specs.Run as run
use Rattle.complex_sync.specs.Views.{SymbolSyncState, SetUp as TimingSetUp}
use Rattle.constellations.specs.declared.kinds.CostasConstellation.{CostasConstellation}
use Rattle.carrier.specs.declared.state.CostasState.{CostasState}
use Rattle.carrier.specs.State.{SetUp as CarrierSetUp}
use Rattle.carrier.specs.State as carrier
use Rattle.carrier.proofs.Laws.Setup as carrierLaws
use Rattle.timing.specs.declared.params.TimingValues.{TimingValues}
use Rattle.carrier.specs.declared.params.CarrierValues.{CarrierValues}
use Rattle.receiver.specs.Record.{SetUp, Receiver, timing_params, carrier_params_of, timing_rows, carrier_rows, opened, SetUpWith}
use Rattle.receiver.specs.Loops.{timing_opened, carrier_opened, timing_number, TimingGiven, joined, timing_put, carrier_put, in_turn, replaced_timing, replaced_carrier}

-- ---- R25: which set-up of one loop is refused, by its number
pub timing-exactly : (t : TimingValues) → Exactly (timing_number (timing_opened t)) (timing_rows t)
unfolding timing_opened
timing-exactly t = exactly timing_number Err (λ n. refl) _ refl (timing_rows t)

pub carrier-exactly : (k : CostasConstellation) (c : CarrierValues) → Exactly (carrier.set_up_number (carrier_opened k c)) (carrier_rows c)
carrier-exactly k c = carrierLaws.refused-exactly k c.loop_bw c.damping c.max_offset

-- ---- R26: the two together are the set-up
pub opened-in-turn : (k : CostasConstellation) (t : TimingValues) (c : CarrierValues) → opened k t c ≡ in_turn (timing_opened t) (carrier_opened k c)
unfolding opened timing_opened carrier.opened
opened-in-turn k t c =
    let s = Ok (run.fresh complex (timing_params t)) in
    let q = Ok (carrier.fresh k (carrier_params_of c)) in
    let a = first_of Err (carrier_rows c) q in
    first-append Err (timing_rows t) (carrier_rows c) (in_turn s q)
    ∙ ap (first_of Err (timing_rows t)) (sym (first-map (in_turn s) Err (carrier_rows c) q))
    ∙ sym (first-map (λ (x : TimingSetUp). in_turn x a) Err (timing_rows t) s)

-- where both loops are accepted, whichever came first
pub opened-of-both : (k : CostasConstellation) (t : TimingValues) (c : CarrierValues) {s : SymbolSyncState} {q : CostasState} → timing_opened t ≡ Ok s → carrier_opened k c ≡ Ok q → opened k t c ≡ Ok (joined s q)
opened-of-both k t c e f = opened-in-turn k t c ∙ (λ j. in_turn (e j) (f j))

pub either_order : (r : Receiver) (s : SymbolSyncState) (c : CostasState) → timing_put (carrier_put r c) s ≡ carrier_put (timing_put r s) c
either_order r s c = refl

-- ---- R27: a loop that is set up anew in a record is the loop's own set-up, put in
abbrev pub timing_in : Receiver → TimingSetUp → SetUp
timing_in r (Ok s) = Ok (timing_put r s)
timing_in r (Err n) = Err n

abbrev pub carrier_in : Receiver → CarrierSetUp → SetUp
carrier_in r (Ok c) = Ok (carrier_put r c)
carrier_in r (Err n) = Err n

pub replaced-timing : (r : Receiver) (t : TimingValues) → replaced_timing r t ≡ timing_in r (timing_opened t)
unfolding replaced_timing timing_opened
replaced-timing r t = sym (first-map (timing_in r) Err (timing_rows t) _)

pub replaced-carrier : (r : Receiver) (k : CostasConstellation) (c : CarrierValues) → replaced_carrier r k c ≡ carrier_in r (carrier_opened k c)
unfolding replaced_carrier carrier.opened
replaced-carrier r k c = sym (first-map (carrier_in r) Err (carrier_rows c) _)

-- with the loop put back, the receiver is as it was
pub timing-back : (r : Receiver) (s : SymbolSyncState) → timing_put (timing_put r s) r.timing ≡ r
timing-back r s = refl

pub carrier-back : (r : Receiver) (c : CostasState) → carrier_put (carrier_put r c) r.carrier ≡ r
carrier-back r c = refl

-- ---- the values that a receiver was set up with, and those of a loop that is put in
pub timing-is : (t : TimingValues) {s : SymbolSyncState} → timing_opened t ≡ Ok s → s ≡ run.fresh complex (timing_params t)
unfolding timing_opened
timing-is t {s} e = let f = run.fresh complex (timing_params t) in let one = (accepted-is timing_number Err (λ n. refl) (Ok f) refl (timing_rows t) (Ok s) refl e).1 in cc

pub carrier-is : (k : CostasConstellation) (c : CarrierValues) {q : CostasState} → carrier_opened k c ≡ Ok q → q ≡ carrier.fresh k (carrier_params_of c)
unfolding carrier.opened
carrier-is k c {q} e = let f = carrier.fresh k (carrier_params_of c) in let one = (accepted-is carrier.set_up_number Err (λ n. refl) (Ok f) refl (carrier_rows c) (Ok q) refl e).1 in cc

module _ {k : CostasConstellation} {t : TimingValues} {c : CarrierValues} where
  pub timing_put-with : (r : Receiver) (u : TimingValues) {s : SymbolSyncState} → SetUpWith k t c r → timing_opened u ≡ Ok s → SetUpWith k u c (timing_put r s)
  timing_put-with r u w e = record { constellation = w.constellation; timing = ap (λ (x : SymbolSyncState). x.params) (timing-is u e); carrier = w.carrier }

  pub carrier_put-with : (r : Receiver) (l : CostasConstellation) (v : CarrierValues) {q : CostasState} → SetUpWith k t c r → carrier_opened l v ≡ Ok q → SetUpWith l t v (carrier_put r q)
  carrier_put-with r l v w e = let f = carrier-is l v e in record { constellation = ap (λ (x : CostasState). x.constellation) f; timing = w.timing; carrier = ap (λ (x : CostasState). x.params) f }

-- ---- what timing's own set-up answers, as the receiver's
pub timing-answers : (t : TimingValues) (a : TimingSetUp) → a ≡ opened_by complex (tuned t.sps t.ted t.loop_bw t.damping t.max_deviation t.ted_gain) → a ≡ timing_opened t
unfolding timing_opened tuned
timing-answers t a e = e ∙ first-map (opened_by complex) Err (timing_rows t) (Ok (timing_params t))

pub timing-given : (a : TimingSetUp) → OpeningGiven a → TimingGiven a
timing-given (Ok s) g = g
timing-given (Err n) g = g
