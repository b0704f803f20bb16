-- R20 to R23: the converter loses nothing: down after up gives the record back, up after down too where one came; it
-- says "too large" exactly of a count above 4,294,967,295; and a given record stays given. Assumes nothing.
use Rattle.std.specs.Prelude.{Ok, Err}
use mathlib.Core.Path.{◌≡◌, refl, sym, ap, ◌∙◌, subst}
use mathlib.Core.Bool.{Bool, true, false}
use Prim.Native.Nat.{◌<◌, ◌≤◌, ◌^◌}
use native.Mathlib.Omega.{arith}
use borrow.Author.Tests.{lt-ltb, le-ltb, ltb-true, ltb-false}
use lib.Dec.{T, ltb}
use Rattle.receiver_records.specs.Records.{Receiver32, Receiver64, Narrowed, widened, largest32, narrowed, Given32, Given64, NarrowedGiven}

-- ---- when a record fits, and when it is too large
pub fits : (r : Receiver64) → r.count ≤ 4294967295 → narrowed r ≡ Ok (record { timing = r.timing; carrier = r.carrier; count = r.count })
unfolding narrowed
fits r h = rw (le-ltb largest32 r.count h) refl

pub too_large : (r : Receiver64) → 4294967295 < r.count → narrowed r ≡ Err (record {})
unfolding narrowed
too_large r h = rw (lt-ltb largest32 r.count h) refl

-- the record with its count in 32 bits
abbrev kept : Receiver64 → Receiver32
kept r = record { timing = r.timing; carrier = r.carrier; count = r.count }

-- a record fits or is too large
module _ (r : Receiver64) {G : Type 0} where
  by_count : (r.count ≤ 4294967295 → narrowed r ≡ Ok (kept r) → G) → (4294967295 < r.count → narrowed r ≡ Err (record {}) → G) → G
  by_count small large = go (ltb largest32 r.count) refl
    where
      go : (b : Bool) → ltb largest32 r.count ≡ b → G
      go true e = let h = ltb-true largest32 r.count e in large h (too_large r h)
      go false e = let h = ltb-false largest32 r.count e in small h (fits r h)

abbrev is_too_large : Narrowed → Bool
is_too_large (Ok s) = false
is_too_large (Err e) = true

pub too-large-exactly : (r : Receiver64) → (narrowed r ≡ Err (record {}) → 4294967295 < r.count) × (4294967295 < r.count → narrowed r ≡ Err (record {}))
too-large-exactly r = ((λ e. by_count r (λ h f. absurd (subst T (ap is_too_large (sym e ∙ f)) tt)) (λ h f. h)), too_large r)

-- ---- there and back
-- every count of 32 bits is below 2^32
pub down-after-up : (r : Receiver32) → r.count < 2 ^ 32 → narrowed (widened r) ≡ Ok r
down-after-up r h = fits (widened r) (omega arith)

pub up-after-down : (r : Receiver64) (s : Receiver32) → narrowed r ≡ Ok s → widened s ≡ r
up-after-down r s e = by_count r (λ h f. let g = sym e ∙ f in let same : s ≡ kept r = cc in ap (λ (q : Receiver32). widened q) same) (λ h f. absurd (subst T (ap is_too_large (sym f ∙ e)) tt))

-- ---- a given record stays given
pub widened-given : (r : Receiver32) → Given32 r → Given64 (widened r)
widened-given r g = record { timing = g.timing; carrier = g.carrier; count-in = let h = g.count-in in omega arith }

pub narrowed-given : (r : Receiver64) → Given64 r → NarrowedGiven (narrowed r)
narrowed-given r g = by_count r
    (λ h f. subst NarrowedGiven (sym f) (record { timing = g.timing; carrier = g.carrier; count-in = omega arith }))
    (λ h f. subst NarrowedGiven (sym f) tt)
