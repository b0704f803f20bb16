-- The states of both loops as words, three in a row, and when a line has a row of them. Definitions only.
use Rattle.std.specs.Prelude.{ℕ, ◌+◌, ◌*◌, ◌^◌, ◌/◌, Bool, true, false, ◌&&◌, cond, List, [], ◌∷◌, ltb, length, get_or, set, Float}
use Rattle.std.specs.Float.{binary32, binary64}
use Rattle.std.specs.Float.Ieee.{of_bits, to_bits}
use Rattle.ieee.specs.Alike.{same_number}
use Rattle.values.specs.declared.sample.C32.{C32}
use Rattle.timing.specs.Clock.{next_strobe}
use Rattle.complex_sync.specs.Views.{SymbolSyncState}
use Rattle.carrier.specs.declared.state.CostasState.{CostasState}
use Rattle.answers.specs.declared.line.Operation.{Operation}
use Rattle.answers.specs.Line.{has}
use Rattle.plain.specs.Codes.{detector_code, constellation_code}

-- ---- bit patterns and flags
abbrev pub single : Float → ℕ
single x = to_bits binary32 x

abbrev pub double : Float → ℕ
double x = to_bits binary64 x

abbrev pub pair : C32 → ℕ
pair z = single z.re * 2 ^ 32 + single z.im

abbrev pub flag_of : Bool → ℕ
flag_of b = cond b 1 0

-- the middle is held; there was a strobe
abbrev pub flags_of : Bool → Bool → ℕ
flags_of true true = 3
flags_of false true = 2
flags_of true false = 1
flags_of false false = 0

-- ---- the states
unfoldable pub timing_words : SymbolSyncState → List ℕ
timing_words s =
    let p = s.params in
    let h = s.hist in
    let t = s.track in
    let c = t.clock in
    double p.sps ∷ double p.loop_bw ∷ double p.damping
    ∷ double p.max_deviation ∷ double p.ted_gain ∷ detector_code p.ted
    ∷ double p.kp ∷ double p.ki ∷ double p.lim
    ∷ c.i ∷ double c.mu ∷ double c.omega
    ∷ pair h.a ∷ pair h.b ∷ pair h.c
    ∷ pair t.y_prev ∷ pair t.d_prev ∷ pair t.mid
    ∷ double c.integ ∷ flags_of t.mid_ready t.started ∷ double (next_strobe c)
    ∷ []

-- the frequency as an f32, and widened
unfoldable pub carrier_words : CostasState → List ℕ
carrier_words s =
    let p = s.params in
    let n = s.track.nco in
    let l = s.track.lock in
    double p.loop_bw ∷ double p.damping ∷ double p.max_offset
    ∷ single p.kp ∷ single p.ki ∷ single p.max
    ∷ n.phase ∷ single n.freq ∷ double n.freq
    ∷ single l.level ∷ flag_of l.locked ∷ constellation_code s.constellation
    ∷ []

-- ---- a line and a row
-- no line has a row that is not there
abbrev pub same_row : List ℕ → ℕ → Operation → Bool
same_row ws k op = ltb k (length ws / 3) && has op (get_or ws (3 * k) 0) (get_or ws (3 * k + 1) 0) (get_or ws (3 * k + 2) 0)

-- the integrator, which is word 18, as the line's if the two are the same number
abbrev pub forgiven : List ℕ → Operation → List ℕ
forgiven ws op = cond (same_number (of_bits binary64 (get_or ws 18 0)) (of_bits binary64 op.x)) (set ws 18 op.x) ws
