-- L12 and L13: what the plain records become stands for what the receivers become, a given record stays given, and
-- nothing is lost there and back (R22). Assumes nothing.
use mathlib.Core.Path.{◌≡◌, refl, sym, ap, ◌∙◌, subst}
use mathlib.Core.Bool.{Bool, true, false}
use Prim.Native.Nat.{◌≤◌, ◌<◌, ◌^◌}
use native.Mathlib.Omega.{arith}
use borrow.Author.Tests.{lt-ltb, le-ltb, ltb-true, ltb-false}
use lib.Dec.{lit<, ltb}
use Rattle.values.specs.declared.error.Refusal.{Refusal}
use Rattle.values.specs.declared.error.Refusal.TheVariants.{Pace, Width, Damping, Pull, Slope, Gains, Uneven, Odd, Undefined, Cut, Early}
use Rattle.values.specs.Refusal.{number_of}
use Rattle.receiver_records.specs.Records.{largest32}
use Rattle.receiver_records.specs.Records as records
use Rattle.receiver_records.proofs.Laws.Convert as laws
use Rattle.plain_records.specs.declared.record.Receiver64.{Receiver64}
use Rattle.plain_records.specs.declared.record.Receiver32.{Receiver32}
use Rattle.plain_records.specs.declared.convert.ReceiverNarrowed.{ReceiverNarrowed}
use Rattle.plain_records.specs.Records.{receiver64_of, Given64}
use Rattle.plain_records.specs.Convert.{receiver32_of, Given32, widened, none32, too_large_number, narrowed, answer_of}

-- ---- up
pub widened-stands : (x : Receiver32) → receiver64_of (widened x) ≡ records.widened (receiver32_of x)
widened-stands x = refl

pub widened-given : (x : Receiver32) → Given32 x → Given64 (widened x)
widened-given x g = record { receiver = laws.widened-given (receiver32_of x) g.receiver; detector = g.detector; constellation = g.constellation }

-- ---- down
pub fits : (x : Receiver64) → x.count ≤ 4294967295 → narrowed x ≡ record { number = 0; receiver = record { timing = x.timing; carrier = x.carrier; count = x.count } }
unfolding narrowed
fits x h = rw (le-ltb largest32 x.count h) refl

pub too_large : (x : Receiver64) → 4294967295 < x.count → narrowed x ≡ record { number = too_large_number; receiver = none32 }
unfolding narrowed
too_large x h = rw (lt-ltb largest32 x.count h) refl

-- a record fits or is too large
module _ (x : Receiver64) {G : Type 0} where
  by_count : (x.count ≤ 4294967295 → G) → (4294967295 < x.count → G) → G
  by_count small large = go (ltb largest32 x.count) refl
    where
      go : (b : Bool) → ltb largest32 x.count ≡ b → G
      go true e = large (ltb-true largest32 x.count e)
      go false e = small (ltb-false largest32 x.count e)

pub narrowed-stands : (x : Receiver64) → answer_of (narrowed x) ≡ records.narrowed (receiver64_of x)
narrowed-stands x =
    by_count x
    (λ h. ap answer_of (fits x h) ∙ sym (laws.fits (receiver64_of x) h))
    (λ h. ap answer_of (too_large x h) ∙ sym (laws.too_large (receiver64_of x) h))

-- the number of an answer that is too large
above : (x : Receiver64) → 4294967295 < x.count → (narrowed x).number ≡ 0 → ⊥
above x h n = let e = ap (λ (z : ReceiverNarrowed). z.number) (too_large x h) in absurd (omega arith)

fitted-given : (x : Receiver64) → Given64 x → x.count ≤ 4294967295 → Given32 (narrowed x).receiver
fitted-given x g h =
    let r = receiver64_of x in
    let given = subst records.NarrowedGiven (laws.fits r h) (laws.narrowed-given r g.receiver) in
    subst (λ (z : ReceiverNarrowed). Given32 z.receiver) (sym (fits x h)) (record { receiver = given; detector = g.detector; constellation = g.constellation })

pub narrowed-given : (x : Receiver64) → Given64 x → (narrowed x).number ≡ 0 → Given32 (narrowed x).receiver
narrowed-given x g n = by_count x (fitted-given x g) (λ h. absurd (above x h n))

-- ---- R22: there and back
-- every count of 32 bits is below 2^32
pub down-after-up : (x : Receiver32) → x.count < 2 ^ 32 → narrowed (widened x) ≡ record { number = 0; receiver = x }
down-after-up x h = fits (widened x) (omega arith)

pub up-after-down : (x : Receiver64) → (narrowed x).number ≡ 0 → widened (narrowed x).receiver ≡ x
up-after-down x n = by_count x (λ h. ap (λ (z : ReceiverNarrowed). widened z.receiver) (fits x h)) (λ h. absurd (above x h n))

-- ---- L13: no refusal has the number of "too large"
pub refused-below : (n : Refusal) → number_of n < too_large_number
refused-below Pace = lit< tt
refused-below Width = lit< tt
refused-below Damping = lit< tt
refused-below Pull = lit< tt
refused-below Slope = lit< tt
refused-below Gains = lit< tt
refused-below Uneven = lit< tt
refused-below Odd = lit< tt
refused-below Undefined = lit< tt
refused-below Cut = lit< tt
refused-below Early = lit< tt
