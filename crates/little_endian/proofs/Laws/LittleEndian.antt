-- Little-endian numbers: one byte more, how large they can be, and that a number's bytes spell it. Assumes nothing.
use mathlib.Core.Path.{◌≡◌, refl, ap, ◌∙◌}
use mathlib.Core.List.{List, [], ◌∷◌, ◌++◌}
use Prim.Native.Nat.{ℕ, zero, suc, ◌+◌, ◌-◌, ◌*◌, ◌/◌, ◌^◌, ◌<◌, ◌≤◌, min}
use native.Mathlib.Nat.{pow-succ', pow-le-pow_right}
use native.Mathlib.Omega.{arith}
use lib.ListN.{length, get_or, take, drop, length-take, length-drop}
use lib.Seq.{take_all}
use Rattle.std.proofs.lemmas.List.{take_min, drop_min}
use Rattle.little_endian.specs.Bytes.{little_endian, bytes_of}

-- what is stored in a slice of u8
abbrev pub Bytes : List ℕ → Type 0
Bytes l = (i : ℕ) → get_or l i 0 < 256

bytes_take : (n : ℕ) (l : List ℕ) → Bytes l → Bytes (take n l)
bytes_take zero l h i = omega arith
bytes_take (suc n) [] h i = omega arith
bytes_take (suc n) (b ∷ l) h zero = h 0
bytes_take (suc n) (b ∷ l) h (suc i) = bytes_take n l (λ j. h (suc j)) i

below : (l : List ℕ) → Bytes l → little_endian l < 256 ^ length l
unfolding little_endian
below [] h = omega arith
below (b ∷ l) h =
    let first = h 0 in
    let rest = below l (λ i. h (suc i)) in
    rw pow-succ' (omega arith)

-- ---- there and back
pub bytes-spell : (n x : ℕ) → x < 256 ^ n → little_endian (bytes_of n x) ≡ x
unfolding little_endian bytes_of
bytes-spell zero x h = omega arith
bytes-spell (suc n) x h =
    let size : x < 256 * 256 ^ n = rw pow-succ' at h in
    let rest = bytes-spell n (x / 256) (omega arith) in
    omega arith

-- ---- the first eight bytes
module _ (l : List ℕ) (h : Bytes l) where
  eight : Bytes (take 8 l)
  eight = bytes_take 8 l h

  pub eight-below : little_endian (take 8 l) < 256 ^ length l
  eight-below = let a = below (take 8 l) eight in let b = pow-le-pow_right {n = 256} (omega arith) {i = length (take 8 l)} {j = length l} (rw length-take (omega arith)) in omega arith

  -- they fit 64 bits
  eight-fit : little_endian (take 8 l) < 2 ^ 64
  eight-fit = let a = below (take 8 l) eight in let b = pow-le-pow_right {n = 256} (omega arith) {i = length (take 8 l)} {j = 8} (rw length-take (omega arith)) in omega arith

-- as the code lends them
pub first-eight : (l : List ℕ) (n : ℕ) → n ≡ min (length l) 8 → take n l ≡ take 8 l
first-eight l n e = let f : n ≡ min 8 (length l) = omega arith in ap (λ (k : ℕ). take k l) f ∙ take_min 8 l

-- ---- from the last byte to the first: what bytes spell in front of the number of those behind them
unfoldable pub onto : List ℕ → ℕ → ℕ
onto [] v = v
onto (b ∷ l) v = b + 256 * onto l v

pub onto-none : (l : List ℕ) → onto l 0 ≡ little_endian l
unfolding onto little_endian
onto-none [] = refl
onto-none (b ∷ l) = ap (λ (n : ℕ). b + 256 * n) (onto-none l)

pub onto-last : (l : List ℕ) (b v : ℕ) → onto (l ++ (b ∷ [])) v ≡ onto l (b + 256 * v)
unfolding onto
onto-last [] b v = refl
onto-last (a ∷ l) b v = ap (λ (n : ℕ). a + 256 * n) (onto-last l b v)

onto-least : (l : List ℕ) (v : ℕ) → v ≤ onto l v
unfolding onto
onto-least [] v = omega arith
onto-least (b ∷ l) v = let h = onto-least l v in omega arith

-- the byte before those fits in front of their number
pub last-fits : (all : List ℕ) → Bytes all → (l : List ℕ) (b v : ℕ) → onto (l ++ (b ∷ [])) v ≡ little_endian (take 8 all) → b + 256 * v < 2 ^ 64
last-fits all h l b v e = let a = onto-least l (b + 256 * v) in let c = onto-last l b v in let d = eight-fit all h in omega arith

-- where no byte is left, the value is the number
pub all-spelled : (l : List ℕ) {v n : ℕ} → length l ≡ 0 → onto l v ≡ n → v ≡ n
unfolding onto
all-spelled [] z e = e
all-spelled (b ∷ l) z e = absurd (omega arith)

-- ---- the eight bytes from a place on, as the code takes them: the rest of the slice from there, or nothing past its end
pub rest-spelled : (l : List ℕ) (from : ℕ) {at : ℕ} → at ≡ min from (length l) → little_endian (take 8 (take (length l - at) (drop at l))) ≡ little_endian (take 8 (drop from l))
rest-spelled l from {at} e = ap (λ (m : List ℕ). little_endian (take 8 m)) (take_all (length l - at) (drop at l) (rw length-drop (omega arith)) ∙ ap (λ (n : ℕ). drop n l) e ∙ drop_min from l)
