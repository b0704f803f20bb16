-- A command that is read from its first byte on: what holds of the buffers whenever its bytes so far are looked at.
-- Assumes nothing.
use mathlib.Core.Path.{◌≡◌, refl, sym, ap, ◌∙◌, subst}
use mathlib.Core.Bool.{true}
use mathlib.Core.List.{List, []}
use Prim.Native.Nat.{ℕ, ◌+◌, ◌-◌, ◌*◌, ◌≤◌, ◌<◌}
use native.Mathlib.Omega.{arith}
use lib.Dec.{T}
use lib.ListN.{length, take}
use lib.Seq.{sets, length-take-le, take-nil, take-take}
use lib.Ieee.{Float}
use borrow.Rule.Slice.PartMut.{put_mid, take_put}
use Rattle.little_endian.specs.Samples.{whole_samples, bytes, stored_bytes}
use Rattle.tape.specs.declared.desk.Desk.{Desk}
use Rattle.tape.specs.declared.answer.Carried.{Carried}
use Rattle.tape.specs.declared.answer.Step.{Step}
use Rattle.tape.specs.declared.answer.Step.TheVariants.{Wants, Done}
use Rattle.tape.specs.Reading.{reading_of}
use Rattle.tape.specs.Steps.{Stepped, wants, done, refused, stepped, answer_of, symbols_of}
use Rattle.tape.proofs.Laws.Wanted.{wanted_room}
use Rattle.whole_tapes.proofs.Laws.Exact.{Exact, step-exact}
use Rattle.order_tape.specs.Command.{ReadTo}

-- the code wants more bytes where the definition does
wanted : (n : ℕ) (s : Stepped) {k : ℕ} → Wants k ≡ answer_of n s → s ≡ wants k
wanted n (wants j) e = cc
wanted n (done d u xs) e = absurd (let z : ◌≡◌ {A = ℕ} 0 1 = cc in omega arith)
wanted n (refused r j) e = absurd (let z : ◌≡◌ {A = ℕ} 0 1 = cc in omega arith)

-- of a command that is carried out no more is written than was lent
pub written-fits : (n : ℕ) (s : Stepped) {q : Carried} → Done q ≡ answer_of n s → q.written ≤ n
written-fits n (wants k) e = absurd (let z : ◌≡◌ {A = ℕ} 0 1 = cc in omega arith)
written-fits n (done d used xs) {q} e =
    let same : q ≡ record { desk = d; used = used; written = 8 * whole_samples n (length xs) } = cc in
    let w = ap (λ (q : Carried). q.written) same in
    omega arith
written-fits n (refused r k) e = absurd (let z : ◌≡◌ {A = ℕ} 0 1 = cc in omega arith)

-- without symbols the output stays as it is
stored-none : (bs : List ℕ) → stored_bytes [] bs ≡ bs
unfolding bytes
stored-none bs = ap (λ (xs : List Float). sets bs 0 (bytes xs)) (take-nil (2 * whole_samples (length bs) 0))

-- a command that is carried out or refused has as many bytes as were read, where the definition says so
read-to : (n : ℕ) (l : List ℕ) (s : Stepped) → Exact l s → ReadTo (length l) (answer_of n s)
read-to n l (wants k) e = tt
read-to n l (done d used xs) e = e
read-to n l (refused r k) e = e

-- so many bytes of a command are read, and none behind it, into a buffer that keeps its length; no symbol is written
pub record Underway (d : Desk) (bs₀ ys₀ bs ys : List ℕ) (read : ℕ) : Type 0 where
  pub kept : length bs ≡ length bs₀
  pub within : read ≤ 16387
  pub exact : Exact (take read bs) (stepped d (take read bs))
  pub unwritten : ys ≡ ys₀

pub begins : (d : Desk) (bs ys : List ℕ) → Underway d bs ys bs ys 0
unfolding stepped reading_of
begins d bs ys = record { kept = refl; within = omega arith; exact = tt; unwritten = refl }

module _ {d : Desk} {bs₀ ys₀ bs ys : List ℕ} {read : ℕ} (u : Underway d bs₀ ys₀ bs ys read) (room : 16387 ≤ length bs₀) where
  inside : read ≤ length bs
  inside = let k = u.kept in let w = u.within in omega arith

  -- the bytes so far, as the code lends them
  pub front : length (take read bs) ≡ read
  front = length-take-le read bs inside

  -- ---- the command is carried out or refused
  abbrev Met : Step → List ℕ → List ℕ → Type 0
  Met z bs zs = (z ≡ answer_of (length ys₀) (stepped d (take read bs))) × ((zs ≡ stored_bytes (symbols_of (stepped d (take read bs))) ys₀) × ReadTo read z)

  pub met : {z : Step} {zs : List ℕ} → z ≡ answer_of (length ys) (stepped d (take read bs)) → zs ≡ stored_bytes (symbols_of (stepped d (take read bs))) ys → Met z bs zs
  met e f =
      let s = stepped d (take read bs) in (
        e ∙ ap (λ (l : List ℕ). answer_of (length l) s) u.unwritten,
        (f ∙ ap (stored_bytes (symbols_of s)) u.unwritten, subst (ReadTo read) (sym e) (subst (λ (n : ℕ). ReadTo n (answer_of (length ys) s)) front (read-to (length ys) (take read bs) s u.exact))),
      )

  -- ---- it wants more
  module _ {k : ℕ} (e : Wants k ≡ answer_of (length ys) (stepped d (take read bs))) where
    wants-more : stepped d (take read bs) ≡ wants k
    wants-more = wanted (length ys) (stepped d (take read bs)) e

    -- at least a byte, for which there is room
    pub field : (0 < k) × (read + k ≤ 16387)
    field = let r = wanted_room d (take read bs) wants-more in let f = front in (r.0, omega (arith, r.1))

    module _ {zs : List ℕ} (f : zs ≡ stored_bytes (symbols_of (stepped d (take read bs))) ys) (part : List ℕ) where
      -- the buffer with what a read has left in the part that is wanted
      abbrev cs : List ℕ
      cs = put_mid read (read + k - read) bs part

      same : take read cs ≡ take read bs
      same = take_put read (read + k - read) bs part inside

      pub still : zs ≡ ys₀
      still = f ∙ ap (λ (s : Stepped). stored_bytes (symbols_of s) ys) wants-more ∙ stored-none ys ∙ u.unwritten

      -- none is read
      pub met-short : Met (Wants k) cs zs
      met-short = subst (λ (l : List ℕ). (Wants k ≡ answer_of (length ys₀) (stepped d l)) × ((zs ≡ stored_bytes (symbols_of (stepped d l)) ys₀) × T true)) (sym same) (met e f)

      -- some are read
      module _ {n : ℕ} (long : length cs ≡ length bs) (few : n ≤ k) where
        more : length (take (read + n) cs) ≡ read + n
        more = length-take-le (read + n) cs (let r = field in let k = u.kept in omega (arith, r.1))

        before : take read (take (read + n) cs) ≡ take read bs
        before = take-take read (read + n) cs (omega arith) ∙ same

        pub goes_on : Underway d bs₀ ys₀ cs zs (read + n)
        goes_on =
            record {
              kept = long ∙ u.kept;
              within = let r = field in omega (arith, r.1);
              exact = let m = more in step-exact (take (read + n) cs) read k (omega arith) (omega arith) d (ap (stepped d) before ∙ wants-more);
              unwritten = still;
            }
