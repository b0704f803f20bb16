-- The f32 that bytes hold: how many there are, the one at an index, and that those read stand at the front; the bytes that hold f32, stored four by four;
-- and that what is written is read back. Assumes nothing.
use mathlib.Core.Path.{◌≡◌, refl, sym, ap, ◌∙◌}
use mathlib.Core.List.{List, [], ◌∷◌, ◌++◌, append_assoc, append-nil}
use Prim.Native.Nat.{ℕ, zero, suc, ◌+◌, ◌-◌, ◌*◌, ◌/◌, ◌%◌, ◌^◌, ◌<◌, ◌≤◌}
use native.Mathlib.Omega.{arith}
use lib.Dec.{T}
use lib.ListN.{length, length-append, length-take, length-drop, get_or, take, drop}
use borrow.Rule.Slice.PartMut.{put_mid}
use lib.Seq.{drop-drop, sets, sets-eq, take_all, take-append_seam, length-take-le}
use lib.Ieee.{Float, binary32, fits, of_bits, to_bits}
use lib.Ieee.Bits.{of_bits-to_bits, to_bits-lt}
use Rattle.ieee.specs.Notation.{zero₀}
use Rattle.little_endian.specs.Bytes.{little_endian, bytes_of}
use Rattle.little_endian.specs.Samples.{floats, bytes, whole_samples, read}
use Rattle.little_endian.proofs.Laws.LittleEndian.{bytes-spell}
use Rattle.std.proofs.lemmas.List.{take_more}
use Rattle.lists.proofs.Laws.Stores.{Stored, goes_on}

-- ---- the f32 of bytes
pub length-floats : (l : List ℕ) → length (floats l) ≡ length l / 4
unfolding floats
length-floats [] = refl
length-floats (a ∷ []) = refl
length-floats (a ∷ b ∷ []) = refl
length-floats (a ∷ b ∷ c ∷ []) = refl
length-floats (a ∷ b ∷ c ∷ d ∷ l) = omega (arith, length-floats l)

four-suc : (i : ℕ) → 4 * suc i ≡ suc (suc (suc (suc (4 * i))))
four-suc i = omega arith

floats_at : (l : List ℕ) (k : ℕ) (z : Float) → k < length l / 4 → get_or (floats l) k z ≡ of_bits binary32 (little_endian (take 4 (drop (4 * k) l)))
unfolding floats
floats_at [] k z h = absurd (omega arith)
floats_at (a ∷ []) k z h = absurd (omega arith)
floats_at (a ∷ b ∷ []) k z h = absurd (omega arith)
floats_at (a ∷ b ∷ c ∷ []) k z h = absurd (omega arith)
floats_at (a ∷ b ∷ c ∷ d ∷ l) zero z h = refl
floats_at (a ∷ b ∷ c ∷ d ∷ l) (suc k) z h = rw (four-suc k) (floats_at l k z (omega arith))

-- four bytes of l, as the code takes them: from 4 k up to 4 k + 4
module _ (l : List ℕ) (k : ℕ) (there : k < length l / 4) where
  abbrev part : List ℕ
  part = take (4 * k + 4 - 4 * k) (drop (4 * k) l)

  part-four : part ≡ take 4 (drop (4 * k) l)
  part-four = let e : 4 * k + 4 - 4 * k ≡ 4 = omega arith in ap (λ (n : ℕ). take n (drop (4 * k) l)) e

  part_length : length part ≡ 4
  part_length = rw (length-take, length-drop) (omega arith)

  pub part-float : {x : ℕ} → x ≡ little_endian (take 8 part) → of_bits binary32 x ≡ get_or (floats l) k zero₀
  part-float {x} e = ap (of_bits binary32) (e ∙ ap little_endian (take_all 8 part (omega (arith, part_length)) ∙ part-four)) ∙ sym (floats_at l k zero₀ there)

-- ---- what is read stands at the front
front-stored : {A : Type 0} (l vs : List A) → length vs ≤ length l → take (length vs) (sets l 0 vs) ≡ vs
front-stored l vs h = ap (take (length vs)) (sets-eq vs l 0 (omega arith)) ∙ take-append_seam vs (drop (0 + length vs) l)

pub read-front : (bs : List ℕ) (ys : List Float) {k : ℕ} → k ≡ whole_samples (length bs) (length ys) → take (2 * k) (read bs ys) ≡ take (2 * k) (floats bs)
read-front bs ys {k} e =
    let n = whole_samples (length bs) (length ys) in
    let v = take (2 * n) (floats bs) in
    let long : length v ≡ 2 * n = length-take-le (2 * n) (floats bs) (let f = length-floats bs in omega arith) in
    ap (λ (i : ℕ). take (2 * i) (read bs ys)) e ∙ ap (λ (i : ℕ). take i (read bs ys)) (sym long) ∙ front-stored ys v (omega arith) ∙ ap (λ (i : ℕ). take (2 * i) (floats bs)) (sym e)

-- ---- the bytes of f32
pub length-four : (x : ℕ) → length (bytes_of 4 x) ≡ 4
unfolding bytes_of
length-four x = refl

length-bytes : (l : List Float) → length (bytes l) ≡ 4 * length l
unfolding bytes
length-bytes [] = refl
length-bytes (x ∷ l) = length-append (bytes_of 4 (to_bits binary32 x)) (bytes l) ∙ (let a = length-four (to_bits binary32 x) in let b = length-bytes l in omega arith)

-- one f32 more
bytes-more : (l : List Float) (x : Float) → bytes (l ++ (x ∷ [])) ≡ bytes l ++ bytes_of 4 (to_bits binary32 x)
unfolding bytes
bytes-more [] x = append-nil (bytes_of 4 (to_bits binary32 x))
bytes-more (y ∷ l) x = ap (λ (m : List ℕ). bytes_of 4 (to_bits binary32 y) ++ m) (bytes-more l x) ∙ sym (append_assoc (bytes_of 4 (to_bits binary32 y)) (bytes l) (bytes_of 4 (to_bits binary32 x)))

-- the library's bytes of a number are those of the definition
pub le-bytes : (x : ℕ) → x < 2 ^ 32 → x % 256 ∷ x / 256 % 256 ∷ x / 65536 % 256 ∷ x / 16777216 % 256 ∷ [] ≡ bytes_of 4 x
unfolding bytes_of
le-bytes x h =
    let d : x / 65536 % 256 ≡ x / 256 / 256 % 256 = omega arith in
    let e : x / 16777216 % 256 ≡ x / 256 / 256 / 256 % 256 = omega arith in
    rw (d, e)

-- four bytes in their place, as the code lends it
pub four-stored : (l : List ℕ) (k : ℕ) → k < length l / 4 → {ys zs : List ℕ} → ys ≡ zs → length zs ≡ 4 → put_mid (4 * k) (4 * k + 4 - 4 * k) l ys ≡ sets l (4 * k) zs
four-stored l k there {ys} {zs} e n =
    let a : 4 * k + 4 - 4 * k ≡ length zs = omega arith in
    (λ j. put_mid (4 * k) (a j) l (e j))
    ∙ ap (λ (m : List ℕ). take (4 * k) l ++ (zs ++ m)) (drop-drop (length zs) (4 * k) l)
    ∙ sym (append_assoc (take (4 * k) l) zs (drop (4 * k + length zs) l)) ∙ sym (sets-eq zs l (4 * k) (omega arith))

pub no_bytes : (xs : List Float) → bytes (take 0 xs) ≡ []
unfolding bytes
no_bytes xs = refl

-- the f32 of xs are stored one by one
pub f32-more : (bs₀ : List ℕ) (xs : List Float) (k : ℕ) (d : Float) → k < length xs → {bs : List ℕ} → Stored bs₀ (bytes (take k xs)) bs → {cs : List ℕ} → cs ≡ sets bs (4 * k) (bytes_of 4 (to_bits binary32 (get_or xs k d))) → Stored bs₀ (bytes (take (k + 1) xs)) cs
f32-more bs₀ xs k d h s e = goes_on bs₀ s place (bytes_of 4 (to_bits binary32 (get_or xs k d))) e (ap bytes (take_more xs k d h) ∙ bytes-more (take k xs) (get_or xs k d))
  where
    place : 4 * k ≡ length (bytes (take k xs))
    place = let a = length-bytes (take k xs) in let n = length-take-le k xs (omega arith) in omega arith

-- ---- what is written is read back
pub read_back : (l : List Float) → ((i : ℕ) → T (fits binary32 (get_or l i zero₀))) → floats (bytes l) ≡ l
unfolding floats bytes bytes_of
read_back [] h = refl
read_back (x ∷ l) h = λ j. (ap (of_bits binary32) (bytes-spell 4 (to_bits binary32 x) (let a = to_bits-lt binary32 x (h 0) in omega arith)) ∙ of_bits-to_bits binary32 x (h 0)) j ∷ read_back l (λ i. h (suc i)) j
