-- O3: bytes that come as they are wanted, and no more of them, are all the command's: where it is carried out or
-- refused, it has just as many bytes as have come. Assumes nothing.
use mathlib.Core.Path.{◌≡◌, refl, sym, ap, ◌∙◌, subst}
use mathlib.Core.Bool.{true}
use mathlib.Core.List.{List, [], ◌++◌, append-nil}
use Prim.Native.Nat.{ℕ, ◌+◌, ◌-◌, ◌≤◌, ◌<◌}
use native.Mathlib.Omega.{arith}
use lib.Dec.{T}
use lib.ListN.{length, length-append, length-drop, take, drop, take-append-drop}
use lib.Seq.{length-take-le, take-take, take_all}
use Rattle.receiver.specs.Loops.{timing_opened, carrier_opened}
use Rattle.plain.specs.Codes.{detector_of, constellation_of}
use Rattle.tape.specs.declared.desk.Desk.{Desk}
use Rattle.tape.specs.declared.desk.Desk.TheVariants.{Empty, Timing, Carrier, Both}
use Rattle.tape.specs.Reading.{byte_at, carrier_values, timing_values, count_of, samples_end, Reading, announced}
use Rattle.tape.specs.Reads.{Reads, nothing, no-command, is-reset, no-constellation, other-constellation, in-carrier, is-carrier, no-detector, other-detector, in-timing, is-timing, in_count, large-count, in-samples, is-samples}
use Rattle.tape.specs.Steps.{Stepped, wants, done, refused, acted, stepped}
use Rattle.tape.proofs.Laws.Reads.{read_is, reads, below_or}
use Rattle.tape.proofs.Laws.Wanted.{done-wants, refused-wants, carrier-wants, timing-wants, both-wants, same-want}
use Rattle.whole_tapes.proofs.Laws.Prefix.{Past, Front, same-refusal, same-command, wants-more, byte-front, count-front, step-front}

-- ---- a field that wants k bytes still wants some behind fewer
-- what is read of some bytes wants more of them
Wanting : Desk → List ℕ → Type 0
Wanting d l = (j : ℕ) × (stepped d l ≡ wants j)

announced-wants : (d : Desk) (a b : ℕ) {k : ℕ} → acted d (announced a) ≡ wants k → acted d (announced b) ≡ wants b
announced-wants Empty a b e = refused-wants e
announced-wants (Timing s) a b e = refused-wants e
announced-wants (Carrier c) a b e = refused-wants e
announced-wants (Both r) a b e = refl

module _ (d : Desk) (p r : List ℕ) where
  abbrev long : length (p ++ r) ≡ length p + length r
  long = length-append p r

  -- the bytes with r behind read as x, which wants more
  wanting : {x : Reading} {j : ℕ} → Reads (p ++ r) x → acted d x ≡ wants j → Wanting d (p ++ r)
  unfolding Wanting stepped
  wanting {x} {j} h e = (j, ap (acted d) (read_is (p ++ r) h) ∙ e)

  still-wanted : {x : Reading} {k : ℕ} → Reads p x → acted d x ≡ wants k → length r < k → Wanting d (p ++ r)
  still-wanted (nothing z) e h = let s = same-want e in let n = long in wanting (nothing (omega arith)) refl
  still-wanted (no-command one a b c f) e h = refused-wants e
  still-wanted (is-reset one i) e h = both-wants d 1 _ (λ q f. done-wants f) e
  still-wanted (no-constellation z i) e h = let s = same-want e in let n = long in wanting (no-constellation (omega arith) (byte-front p r 0 (omega arith) ∙ i)) refl
  still-wanted (other-constellation two i m) e h = refused-wants e
  still-wanted (in-carrier two m i b) e h = let s = same-want e in let n = long in wanting (in-carrier (omega arith) (omega arith) (byte-front p r 0 (omega arith) ∙ i) (rw (byte-front p r 1 (omega arith)) b)) refl
  still-wanted (is-carrier m i b) e h = carrier-wants d (carrier_opened (constellation_of (byte_at p 1)) (carrier_values p)) e
  still-wanted (no-detector z i) e h = let s = same-want e in let n = long in wanting (no-detector (omega arith) (byte-front p r 0 (omega arith) ∙ i)) refl
  still-wanted (other-detector two i m) e h = refused-wants e
  still-wanted (in-timing two m i b) e h = let s = same-want e in let n = long in wanting (in-timing (omega arith) (omega arith) (byte-front p r 0 (omega arith) ∙ i) (rw (byte-front p r 1 (omega arith)) b)) refl
  still-wanted (is-timing m i b) e h = timing-wants d (timing_opened (timing_values (detector_of (byte_at p 1)) p)) e
  still-wanted (in_count one m i) e h = let s = same-want e in let n = long in wanting (in_count (omega arith) (omega arith) (byte-front p r 0 (omega arith) ∙ i)) refl
  still-wanted (large-count three i m) e h = refused-wants e
  still-wanted (in-samples three m i b) e h =
      let n = long in
      let c = count-front p r three in
      let f = both-wants {G = length r < samples_end (count_of p) - length p} d 3 _ (λ q g. let s = same-want g in omega arith) e in
      wanting (in-samples (omega arith) (omega arith) (byte-front p r 0 (omega arith) ∙ i) (omega arith)) (announced-wants d _ _ e)
  still-wanted (is-samples m i b) e h = both-wants d 3 _ (λ q f. done-wants f) e

-- ---- the bytes of a command
-- one that is carried out or refused has as many bytes as there are
abbrev pub Exact : List ℕ → Stepped → Type 0
Exact l (wants k) = T true
Exact l (done d used xs) = used ≡ length l
Exact l (refused r read) = read ≡ length l

-- nothing is decided behind all bytes but one, nor past the last
exact-between : (l : List ℕ) (m : ℕ) (s t : Stepped) → length l ≡ m + 1 → Past m s → Front (length l) s t → t ≡ s → Exact l s
exact-between l m s t e p (same-refusal h) q = omega arith
exact-between l m s t e p (same-command h) q = omega arith
exact-between l m s t e p (wants-more past) q = subst (Exact l) q tt

-- what comes of all bytes, where those of the front want more
past-front : (m : ℕ) (s t : Stepped) {j : ℕ} → Front m s t → t ≡ wants j → Past m s
past-front m s t (same-refusal h) w = refused-wants w
past-front m s t (same-command h) w = done-wants w
past-front m s t (wants-more p) w = p

-- m bytes of l were there when k more were wanted, and no more than these have come
module _ (l : List ℕ) (m k : ℕ) (front : m ≤ length l) (few : length l ≤ m + k) (d : Desk) (e : stepped d (take m l) ≡ wants k) where
  -- all bytes but the last
  abbrev but : List ℕ
  but = take (length l - 1) l

  abbrev rest : List ℕ
  rest = drop m but

  but-long : length but ≡ length l - 1
  but-long = length-take-le (length l - 1) l (omega arith)

  more-come : m < length l → take m l ++ rest ≡ but
  more-come h = ap (λ (p : List ℕ). p ++ rest) (sym (take-take m (length l - 1) l (omega arith))) ∙ take-append-drop m but

  but-wants : m < length l → Wanting d but
  unfolding Wanting stepped
  but-wants h = subst (Wanting d) (more-come h) (still-wanted d (take m l) rest (reads (take m l)) e (let n = but-long in rw (length-drop m but) (omega arith)))

  pub step-exact : Exact l (stepped d l)
  unfolding Wanting
  step-exact = below_or m (length l) more none
    where
      none : length l ≤ m → Exact l (stepped d l)
      none h = subst (Exact l) (sym (ap (stepped d) (sym (take_all m l h)) ∙ e)) tt

      more : m < length l → Exact l (stepped d l)
      more h =
          let w = but-wants h in
          let f : Front (length but) (stepped d l) (stepped d but) = subst (λ (x : List ℕ). Front (length but) (stepped d x) (stepped d but)) (take-append-drop (length l - 1) l) (step-front d but (drop (length l - 1) l)) in
          let g : Front (length l) (stepped d l) (stepped d l) = subst (λ (x : List ℕ). Front (length l) (stepped d x) (stepped d l)) (append-nil l) (step-front d l []) in
          exact-between l (length but) (stepped d l) (stepped d l) (let n = but-long in omega arith) (past-front (length but) (stepped d l) (stepped d but) f w.1) g refl
