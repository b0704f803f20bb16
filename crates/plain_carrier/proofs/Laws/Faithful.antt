-- L1: the carrier loop's record stands for its state faithfully. Assumes nothing.
use mathlib.Core.Path.{◌≡◌, ap, sym, subst}
use Prim.Native.Nat.{ℕ}
use Rattle.constellations.specs.declared.kinds.CostasConstellation.{CostasConstellation}
use Rattle.carrier.specs.declared.state.CostasState.{CostasState}
use Rattle.carrier.specs.State as carrier
use Rattle.plain_carrier.specs.declared.Carrier.{Carrier}
use Rattle.plain.specs.Faithful.{Faithful}
use Rattle.plain_carrier.specs.Carrier.{state_of, record_of, Given}
use Rattle.plain.proofs.Laws.Codes.{constellation-back, constellation-below, constellation-code-back}

-- a state, and its record, with another constellation
abbrev pub with_constellation : CostasState → CostasConstellation → CostasState
with_constellation s c = record { constellation = c; params = s.params; track = s.track }

abbrev pub with_code : Carrier → ℕ → Carrier
with_code x n = record { constellation = n; params = x.params; track = x.track }

state-back : (s : CostasState) → state_of (record_of s) ≡ s
state-back s = ap (with_constellation s) (constellation-back s.constellation)

pub carrier-faithful : Faithful state_of record_of carrier.Given Given
carrier-faithful = record {
  state-back = state-back;
  record-back = λ x g. ap (with_code x) (constellation-code-back x.constellation g.constellation);
  given_out = λ s g. record { state = subst carrier.Given (sym (state-back s)) g; constellation = constellation-below s.constellation };
  given-in = λ x g. g.state;
}
