-- Q11: a counterexample to the statement on turned recordings without its condition on BPSK. Input turned once and a
-- phase not set, in one call, give opposite frequencies. Assumes nothing.
use mathlib.Core.Path.{refl}
use Prim.Native.Nat.{ℕ, ◌*◌, ◌^◌, ◌≤◌}
use native.Mathlib.Omega.{arith}
use mathlib.Core.Bool.{false}
use mathlib.Core.List.{List, [], ◌∷◌, map}
use lib.Dec.{T}
use lib.IntN.{pos, negsuc}
use lib.Ieee.{Float, fin, add, sub, mul, div, neg, lt, le, round, of_bits}
use Rattle.ieee.specs.Notation.{zero₀, half₀, one₀, two₀, quarter₀}
use Rattle.ieee.specs.Magnitude.{magnitude}
use Rattle.ieee.specs.Alike.{Alike}
use Rattle.ieee.proofs.Laws.Like.{like-refl}
use Rattle.ieee.proofs.Laws.Compare.{zero-lt, like-lt, lt-zero, not-both}
use Rattle.values.specs.Samples.{samples, parts}
use Rattle.lists.specs.Each.{Each}
use Rattle.values.specs.Turn.{turns}
use Rattle.values.specs.Calls.{after_by}
use Rattle.numbers.specs.Narrowing.{narrowed}
use Rattle.numbers.specs.Denormal.{flushed}
use Rattle.numbers.specs.Range.{limited}
use Rattle.checks.specs.Range.{in_range, positive}
use Rattle.checks.specs.Table.{first_of}
use Rattle.gains.specs.Quotients.{theta, divisor, proportional, integral}
use Rattle.cosine.specs.Bits.{cos_bits}
use Rattle.cosine.specs.Table.{cos_list}
use Rattle.timing.specs.declared.params.Ted.TheVariants.{Gardner}
use Rattle.timing.specs.Gains.{kp_of, ki_of}
use Rattle.timing.specs.Part.{interpolated}
use Rattle.timing.specs.Clock.{lacking}
use Rattle.timing.specs.Loop.{mid_taken, value_at, runs}
use Rattle.timing.specs.Run.{ran}
use Rattle.constellations.specs.declared.kinds.CostasConstellation.TheVariants.{Bpsk}
use Rattle.carrier.specs.Gains as carrierGains
use Rattle.detectors.specs.Detector.{derotated, detected, calmed, error_of}
use Rattle.carrier.specs.Filter.{new_freq, advanced}
use Rattle.carrier.specs.Step.{stepped}
use Rattle.carrier.specs.Step as carrierStep
use Rattle.carrier.specs.State.{params_of}
use Rattle.timing.specs.declared.params.TimingValues.{TimingValues}
use Rattle.carrier.specs.declared.params.CarrierValues.{CarrierValues}
use Rattle.receiver.specs.Record.{Receiver, timing_params, carrier_params_of, fresh, opened, phase_set}
use Rattle.sample_calls.specs.Call.{done, called}
use Rattle.sample_calls.specs.Calls.{Fresh, just-set-up, Call, after, TurnedCall, turned_call, TurnedList}
use Rattle.sample_calls.proofs.Laws.Turned.{turned-list}

-- ---- a set-up that is accepted: sps 2, both bandwidths 1/16, both dampings 1/2, deviation 0, slope 1, offset 1/4
abbrev sixteenth₀ : Float
sixteenth₀ = fin false 1 (negsuc 3)

abbrev timing : TimingValues
timing = record { sps = two₀; ted = Gardner; loop_bw = sixteenth₀; damping = half₀; max_deviation = zero₀; ted_gain = one₀ }

abbrev carrier : CarrierValues
carrier = record { loop_bw = sixteenth₀; damping = half₀; max_offset = quarter₀ }

abbrev start : Receiver
start = fresh Bpsk (timing_params timing) (carrier_params_of carrier)

start-fresh : Fresh Bpsk timing carrier start
unfolding opened first_of in_range positive kp_of ki_of theta divisor proportional integral add mul div le lt round
start-fresh = just-set-up refl

-- ---- one call with four samples and one place: its strobe is the second sample, (1, 1)
abbrev calls : List Call
calls = record { input = zero₀ ∷ zero₀ ∷ one₀ ∷ one₀ ∷ zero₀ ∷ zero₀ ∷ zero₀ ∷ zero₀ ∷ []; strobes = zero₀ ∷ zero₀ ∷ []; output = zero₀ ∷ zero₀ ∷ [] } ∷ []

abbrev turned_calls : List Call
turned_calls = map (turned_call 1) calls

abbrev frequency : Receiver → List Call → Float
frequency r cs = (after r cs).carrier.track.nco.freq

-- the error of (1, 1) is 1, that of (-1, 1) is -1
opposed : T (lt zero₀ (frequency start calls)) × T (lt (frequency (phase_set start 0) turned_calls) zero₀)
unfolding after_by called done ran runs mid_taken value_at lacking interpolated samples parts turns carrierStep.runs stepped derotated cos_list cos_bits error_of detected calmed advanced new_freq flushed limited magnitude params_of carrierGains.kp_of carrierGains.ki_of narrowed theta divisor proportional integral add sub mul div neg lt le round of_bits
opposed = (tt, tt)

not_alike : (x y : Float) → T (lt zero₀ x) → T (lt y zero₀) → Alike y x → ⊥
not_alike x y p n a = not-both y (rw (← zero-lt false (pos 0) y, like-lt (like-refl zero₀) a) p) (rw (← lt-zero false (pos 0) y) n)

pub counterexample : TurnedList 1 0 start (phase_set start 0) calls turned_calls → ⊥
counterexample q = not_alike _ _ opposed.0 opposed.1 q.afterwards.carrier.frequency

-- Q11: so `turned-recordings` for BPSK is false where k + m may be odd, also where k and m are 0 to 3
pub premise-bites : ((t : TimingValues) (v : CarrierValues) (r s : Receiver) → Fresh Bpsk t v r → Fresh Bpsk t v s → (k m : ℕ) → k ≤ 3 → m ≤ 3 → (cs ds : List Call) → Each (TurnedCall k) cs ds → TurnedList k m r (phase_set s (m * 2 ^ 30)) cs ds) → ⊥
premise-bites claim = counterexample (claim timing carrier start start start-fresh start-fresh 1 0 (omega arith) (omega arith) calls turned_calls (turned-list 1 calls))
