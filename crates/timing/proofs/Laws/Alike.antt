-- Clocks that are alike stay so: the instant, the middle's place and the clock after a strobe depend only on
-- the numbers (N10). Assumes nothing.
use Rattle.std.proofs.Common.{◌≡◌, ℕ, Bool, pos}
use lib.Ieee.{Float, binary64, sub, of_int}
use Rattle.ieee.specs.Notation.{zero₀, half₀, quarter₀, three₀}
use Rattle.ieee.specs.Alike.{Alike}
use Rattle.ieee.proofs.Laws.Like.{like-refl, like-add, like-sub, like-mul-l, like-mul-r}
use Rattle.ieee.proofs.Laws.Compare.{like-cond, like-finite}
use Rattle.numbers.proofs.Laws.Denormal.{like-flush}
use Rattle.numbers.proofs.Laws.Range.{alike-limit}
use Rattle.numbers.proofs.Laws.Whole.{alike-floor, alike-floor-plus, alike-floor-less}
use Rattle.timing.specs.declared.params.Params.{Params}
use Rattle.timing.specs.declared.clock.Clock.{Clock}
use Rattle.timing.specs.Clock.{next_strobe, whole_at, part_of, midway, mid_index, mid_part, new_integ, new_omega, moved, advanced, settled}

pub record AlikeClock (c d : Clock) : Type 0 where
  pub place : c.i ≡ d.i
  pub fraction : Alike c.mu d.mu
  pub spacing : Alike c.omega d.omega
  pub integrator : Alike c.integ d.integ

-- ---- a place, moved by v
same_whole : {i j : ℕ} {v w : Float} → i ≡ j → Alike v w → whole_at i v ≡ whole_at j w
same_whole e p = rw (e, alike-floor-plus p, alike-floor-less p)

alike-part : {v w : Float} → Alike v w → Alike (part_of v) (part_of w)
alike-part p = like-sub binary64 p (alike-floor p)

-- ---- the instant and the middle's place
module _ {c d : Clock} (h : AlikeClock c d) where
  pub alike-instant : Alike (next_strobe c) (next_strobe d)
  unfolding next_strobe
  alike-instant = rw h.place (like-add binary64 (like-refl (sub binary64 (of_int binary64 (pos d.i)) three₀)) h.fraction)

  alike-midway : Alike (midway c) (midway d)
  unfolding midway
  alike-midway = like-sub binary64 h.fraction (like-mul-l binary64 h.spacing (like-refl half₀))

  pub same_mid : mid_index c ≡ mid_index d
  same_mid = same_whole h.place alike-midway

  pub alike-mid : Alike (mid_part c) (mid_part d)
  alike-mid = alike-part alike-midway

  -- ---- and after a strobe, of errors that are alike
  module _ (p : Params) {a b : Float} (e : Alike a b) where
    alike-integ : Alike (new_integ p c a) (new_integ p d b)
    unfolding new_integ
    alike-integ = alike-limit (like-flush binary64 (like-add binary64 h.integrator (like-mul-r binary64 (like-refl p.ki) e))) (like-refl p.lim)

    alike-omega : Alike (new_omega p c a) (new_omega p d b)
    unfolding new_omega
    alike-omega = like-add binary64 (like-refl p.sps) alike-integ

    alike_moved : Alike (moved p c a) (moved p d b)
    unfolding moved
    alike_moved = like-add binary64 (like-add binary64 h.fraction alike-omega) (alike-limit (like-mul-r binary64 (like-refl p.kp) e) (like-mul-l binary64 alike-omega (like-refl quarter₀)))

    pub alike-advanced : AlikeClock (advanced p c a) (advanced p d b)
    unfolding advanced
    alike-advanced = record { place = same_whole h.place alike_moved; fraction = alike-part alike_moved; spacing = alike-omega; integrator = alike-integ }

pub alike-settled : {s t : Bool} {a b : Float} → s ≡ t → Alike a b → Alike (settled s a) (settled t b)
unfolding settled
alike-settled e h = like-cond e (like-cond (like-finite h) h (like-refl zero₀)) (like-refl zero₀)
