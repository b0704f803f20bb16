-- A frame by how many bytes there are and what its lengths say. Assumes nothing.
use Rattle.std.specs.Prelude.{Some, None}
use Rattle.std.proofs.Common.{◌≡◌, ℕ, ◌+◌, ◌-◌, ◌<◌, ◌≤◌, Bool, cond, ltb, List, length, take, drop, sym, ap, ◌∙◌, arith, length-take, take_all, le-ltb, lt-ltb}
use Rattle.little_endian.specs.Bytes.{little_endian}
use Rattle.tape_replay.specs.Frame.{Reading, word_at, frame_of, with_output, with_tape, reading_of}

-- the four bytes as the code takes them
pub word-spelled : (l : List ℕ) (k : ℕ) → little_endian (take 8 (take (k + 4 - k) (drop k l))) ≡ word_at l k
word-spelled l k =
    let e : k + 4 - k ≡ 4 = omega arith in
    ap (λ (n : ℕ). little_endian (take 8 (take n (drop k l)))) e ∙ ap little_endian (take_all 8 (take 4 (drop k l)) (rw length-take (omega arith)))

-- ---- a test that is met makes a frame malformed, one that is not goes on
module _ (a b : ℕ) (r : Reading) where
  by : Bool → Reading
  by x = cond x None r

  met : a < b → None ≡ cond (ltb a b) None r
  unfolding by
  met h = sym (ap by (lt-ltb a b h))

  unmet : b ≤ a → r ≡ cond (ltb a b) None r
  unfolding by
  unmet h = sym (ap by (le-ltb a b h))

module _ (l : List ℕ) where
  pub no_length : length l < 4 → None ≡ reading_of l
  unfolding reading_of
  no_length h = met (length l) 4 (with_tape l (word_at l 0)) h

  module _ (four : 4 ≤ length l) {t : ℕ} (tape : t ≡ word_at l 0) where
    taped : with_tape l t ≡ reading_of l
    unfolding reading_of
    taped = ap (with_tape l) tape ∙ unmet (length l) 4 (with_tape l (word_at l 0)) four

    pub tape-long : 65536 < t → None ≡ reading_of l
    tape-long h = met 65536 t _ h ∙ taped

    pub tape-cut : t ≤ 65536 → length l < t + 16 → None ≡ reading_of l
    tape-cut h cut = met (length l) (t + 16) _ cut ∙ unmet 65536 t _ h ∙ taped

    module _ (most-t : t ≤ 65536) (room : t + 16 ≤ length l) {o : ℕ} (output : o ≡ word_at l (t + 12)) where
      put : with_output l t o ≡ reading_of l
      put = ap (with_output l t) output ∙ unmet (length l) (t + 16) _ room ∙ unmet 65536 t _ most-t ∙ taped

      pub output-long : 65536 < o → None ≡ reading_of l
      output-long h = met 65536 o _ h ∙ put

      pub output-cut : o ≤ 65536 → length l < t + 16 + o → None ≡ reading_of l
      output-cut h cut = met (length l) (t + 16 + o) _ cut ∙ unmet 65536 o _ h ∙ put

      pub whole : o ≤ 65536 → t + 16 + o ≤ length l → Some (frame_of l t o) ≡ reading_of l
      whole h all = unmet (length l) (t + 16 + o) _ all ∙ unmet 65536 o _ h ∙ put
