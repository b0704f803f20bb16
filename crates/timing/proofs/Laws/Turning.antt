-- A quarter turn and a sample's arithmetic: the interpolation and the decision turn with what they are taken of,
-- and a turn leaves the error of either detector as it is. Assumes nothing.
use Rattle.std.proofs.Common.{ℕ, zero, suc, Bool, true, false, pos}
use lib.Ieee.{Float}
use Rattle.ieee.specs.Alike.{Like, Alike}
use Rattle.ieee.specs.Notation.{zero₀}
use Rattle.ieee.proofs.Laws.Like.{like-refl, like-zero, like-minus, like-flip, like-trans, like-then, like-add-x, likes}
use Rattle.values.specs.declared.sample.C32.{C32}
use Rattle.values.specs.Turn.{turn, turns, AlikeSample, Turned}
use Rattle.values.proofs.Laws.Turn.{alike_refl, alike-trans, alike-turn}
use Rattle.numbers.proofs.Laws.Sign.{sign-neg, alike-sign}
use Rattle.timing.specs.Part.{interpolated}
use Rattle.timing.specs.Sample.{complex}

-- ---- the zero sample
pub turned_zero : (k : ℕ) → Turned k complex.zero complex.zero
unfolding turns
turned_zero zero = alike_refl complex.zero
turned_zero (suc k) = alike-trans (record { real = like-flip (like-zero true false false (pos 0) (pos 0)); imag = like-refl zero₀ }) (alike-turn (turned_zero k))

-- ---- the interpolation
like-interp : {s : Bool} {w w' x x' y y' z z' mu mu' : Float} → Like s w w' → Like s x x' → Like s y y' → Like s z z' → Alike mu mu' → Like s (interpolated w x y z mu) (interpolated w' x' y' z' mu')
unfolding interpolated
like-interp pw px py pz pm = search likes depth 14

alike-interp : {w w' x x' y y' z z' : C32} {mu mu' : Float} → AlikeSample w w' → AlikeSample x x' → AlikeSample y y' → AlikeSample z z' → Alike mu mu' → AlikeSample (complex.interp w x y z mu) (complex.interp w' x' y' z' mu')
alike-interp pw px py pz pm = record { real = search like-interp; imag = search like-interp }

interp-turn : (w x y z : C32) (mu : Float) → AlikeSample (complex.interp (turn w) (turn x) (turn y) (turn z) mu) (turn (complex.interp w x y z mu))
interp-turn w x y z mu = record { real = search (like-flip, like-interp, like-minus, like-refl); imag = like-refl _ }

interp-turns : (k : ℕ) (w x y z : C32) (mu : Float) → AlikeSample (complex.interp (turns k w) (turns k x) (turns k y) (turns k z) mu) (turns k (complex.interp w x y z mu))
unfolding turns
interp-turns zero w x y z mu = alike_refl _
interp-turns (suc k) w x y z mu = alike-trans (interp-turn (turns k w) (turns k x) (turns k y) (turns k z) mu) (alike-turn (interp-turns k w x y z mu))

pub turned-interp : (k : ℕ) (w x y z : C32) {w' x' y' z' : C32} {mu mu' : Float} → Turned k w w' → Turned k x x' → Turned k y y' → Turned k z z' → Alike mu' mu → Turned k (complex.interp w x y z mu) (complex.interp w' x' y' z' mu')
turned-interp k w x y z {mu = mu} pw px py pz pm = alike-trans (alike-interp pw px py pz pm) (interp-turns k w x y z mu)

-- ---- the decision
decide-turn : (z : C32) → AlikeSample (complex.decide (turn z)) (turn (complex.decide z))
decide-turn z = record { real = like-flip (sign-neg z.im); imag = like-refl _ }

decide-turns : (k : ℕ) (z : C32) → AlikeSample (complex.decide (turns k z)) (turns k (complex.decide z))
unfolding turns
decide-turns zero z = alike_refl _
decide-turns (suc k) z = alike-trans (decide-turn (turns k z)) (alike-turn (decide-turns k z))

pub turned-decide : (k : ℕ) (z : C32) {v : C32} → Turned k z v → Turned k (complex.decide z) (complex.decide v)
turned-decide k z p = alike-trans (record { real = alike-sign p.real; imag = alike-sign p.imag }) (decide-turns k z)

-- ---- Gardner's error
alike-gardner : {q q' y y' m m' : C32} → AlikeSample q q' → AlikeSample y y' → AlikeSample m m' → Alike (complex.gardner q y m) (complex.gardner q' y' m')
alike-gardner hq hy hm = search likes depth 8

gardner-turn : (q y m : C32) → Alike (complex.gardner (turn q) (turn y) (turn m)) (complex.gardner q y m)
gardner-turn q y m = search (likes, like-add-x) depth 8

gardner-turns : (k : ℕ) (q y m : C32) → Alike (complex.gardner (turns k q) (turns k y) (turns k m)) (complex.gardner q y m)
unfolding turns
gardner-turns zero q y m = like-refl _
gardner-turns (suc k) q y m = like-trans (gardner-turn (turns k q) (turns k y) (turns k m)) (gardner-turns k q y m)

pub turned-gardner : (k : ℕ) (q y m : C32) {q' y' m' : C32} → Turned k q q' → Turned k y y' → Turned k m m' → Alike (complex.gardner q' y' m') (complex.gardner q y m)
turned-gardner k q y m hq hy hm = like-then (alike-gardner hq hy hm) (gardner-turns k q y m)

-- ---- Mueller and Müller's error
alike-mm : {b b' y y' d d' q q' : C32} → AlikeSample b b' → AlikeSample y y' → AlikeSample d d' → AlikeSample q q' → Alike (complex.mm b y d q) (complex.mm b' y' d' q')
alike-mm hb hy hd hq = search likes depth 8

mm-turn : (b y d q : C32) → Alike (complex.mm (turn b) (turn y) (turn d) (turn q)) (complex.mm b y d q)
mm-turn b y d q = search (likes, like-add-x) depth 8

mm-turns : (k : ℕ) (b y d q : C32) → Alike (complex.mm (turns k b) (turns k y) (turns k d) (turns k q)) (complex.mm b y d q)
unfolding turns
mm-turns zero b y d q = like-refl _
mm-turns (suc k) b y d q = like-trans (mm-turn (turns k b) (turns k y) (turns k d) (turns k q)) (mm-turns k b y d q)

pub turned-mm : (k : ℕ) (b y d q : C32) {b' y' d' q' : C32} → Turned k b b' → Turned k y y' → Turned k d d' → Turned k q q' → Alike (complex.mm b' y' d' q') (complex.mm b y d q)
turned-mm k b y d q hb hy hd hq = like-then (alike-mm hb hy hd hq) (mm-turns k b y d q)
