-- The values that a receiver was set up with stay: a set-up gives them, and a reset and the phase setting keep them.
-- The phase setting keeps all else too (R8). Assumes nothing.
use Rattle.std.specs.Prelude.{Ok}
use mathlib.Core.Path.{◌≡◌, refl, ap}
use Prim.Native.Nat.{ℕ}
use Rattle.constellations.specs.declared.kinds.CostasConstellation.{CostasConstellation}
use Rattle.timing.specs.declared.params.TimingValues.{TimingValues}
use Rattle.carrier.specs.declared.params.CarrierValues.{CarrierValues}
use Rattle.receiver.specs.Record.{Receiver, opened, restarted, phase_set, SetUpWith}
use Rattle.receiver.proofs.Laws.Setup.{opened-is}

module _ {k : CostasConstellation} {t : TimingValues} {c : CarrierValues} where
  pub opened_with : (r : Receiver) → opened k t c ≡ Ok r → SetUpWith k t c r
  opened_with r e =
      let f = opened-is k t c r e in
      record { constellation = ap (λ (q : Receiver). q.carrier.constellation) f; timing = ap (λ (q : Receiver). q.timing.params) f; carrier = ap (λ (q : Receiver). q.carrier.params) f }

  pub restarted-with : (r : Receiver) → SetUpWith k t c r → SetUpWith k t c (restarted r)
  restarted-with r w = record { constellation = w.constellation; timing = w.timing; carrier = w.carrier }

  pub phase_set-with : (r : Receiver) (phase : ℕ) → SetUpWith k t c r → SetUpWith k t c (phase_set r phase)
  phase_set-with r phase w = record { constellation = w.constellation; timing = w.timing; carrier = w.carrier }

-- R8: with the phase set back, the receiver is as it was
pub phase-back : (r : Receiver) (phase : ℕ) → phase_set (phase_set r phase) r.carrier.track.nco.phase ≡ r
phase-back r phase = refl
