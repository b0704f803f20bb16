-- A number spelled digit by digit: one digit more, a byte that is no digit, the end, and how large it can be.
-- Assumes nothing.
use Rattle.std.specs.Prelude.{Some, None, nat_lt}
use Rattle.std.proofs.Common.{◌≡◌, ℕ, ◌+◌, ◌*◌, ◌^◌, ◌<◌, ◌≤◌, Bool, true, false, cond, List, length, get_or, drop, refl, add-one, arith, drop-cons, eq-eqb, ne_eqb}
use borrow.Author.Tests.{ltb-false}
use native.Mathlib.Nat.{pow-succ', pow-le-pow_right}
use lib.Seq.{drop-length}
use Rattle.answers.specs.Hex.{value_of, digit_of, spelled, word_of}

-- ---- a byte is a digit, or it is none
some-passed : (t : Bool) (v d : ℕ) → Some d ≡ cond t None (Some v) → (t ≡ false) × (d ≡ v)
some-passed true v d e = cc
some-passed false v d e = (refl, cc)

none-passed : (t : Bool) (v : ℕ) → None ≡ cond t None (Some v) → t ≡ true
none-passed true v e = refl
none-passed false v e = cc

module _ (b d : ℕ) (is : Some d ≡ digit_of b) where
  pub digit-small : d < 16
  digit-small = let p = some-passed (nat_lt 15 (value_of b)) (value_of b) d is in let small : value_of b ≤ 15 = ltb-false 15 (value_of b) p.0 in omega (arith, p.1)

module _ (bs : List ℕ) (i n : ℕ) (there : i < length bs) where
  pub digit-more : (d : ℕ) → Some d ≡ digit_of (get_or bs i 0) → spelled (drop (i + 1) bs) (n * 16 + d) ≡ spelled (drop i bs) n
  unfolding spelled
  digit-more d is = let v = value_of (get_or bs i 0) in let p = some-passed (nat_lt 15 v) v d is in rw (add-one, drop-cons bs i 0, p.0, p.1)

  pub no_digit : None ≡ digit_of (get_or bs i 0) → None ≡ spelled (drop i bs) n
  unfolding spelled
  no_digit is = let v = value_of (get_or bs i 0) in rw (drop-cons bs i 0, none-passed (nat_lt 15 v) v is)

pub spelled_out : (bs : List ℕ) (n : ℕ) → length bs ≡ 16 → Some n ≡ spelled (drop 16 bs) n
unfolding spelled
spelled_out bs n h = rw (← h, drop-length)

-- ---- how large a number is
module _ (i n d : ℕ) (left : i < 16) (below : n < 16 ^ i) (small : d < 16) where
  pub still-below : n * 16 + d < 16 ^ (i + 1)
  still-below = rw (add-one, pow-succ') (omega arith)

  pub room : n * 16 + d < 2 ^ 64
  room = let most : 16 ^ i ≤ 16 ^ 15 = pow-le-pow_right (omega arith) {j = 15} (omega arith) in omega arith

-- ---- sixteen bytes
module _ (bs : List ℕ) where
  pub word-broken : (length bs ≡ 16 → ⊥) → None ≡ word_of bs
  unfolding word_of
  word-broken h = rw (ne_eqb (length bs) 16 h)

  pub word-spelled : length bs ≡ 16 → spelled bs 0 ≡ word_of bs
  unfolding word_of
  word-spelled h = rw (eq-eqb (length bs) 16 h)
