-- A whole run, and a call on real and on complex samples: a given state leaves a given state; the counts;
-- the places that a call leaves; a refused call. Assumes nothing.
use Rattle.std.proofs.Common.{◌≡◌, ℕ, ◌+◌, ◌*◌, ◌/◌, ◌<◌, ◌≤◌, Bool, true, false, cond, List, length, drop, refl, ◌∙◌, subst, mul-le-mul_left, arith, length-append, length-drop}
use lib.Seq.{drop-append_seam}
use lib.Ieee.{Float}
use Rattle.values.specs.declared.sample.C32.{C32}
use Rattle.values.specs.declared.error.Refusal.TheVariants.{Odd}
use Rattle.values.specs.Samples.{samples}
use Rattle.values.specs.Buffers.{odd_either}
use Rattle.values.proofs.Laws.Samples.{length-samples}
use Rattle.timing.specs.Sample.{Ops, real, complex}
use Rattle.timing.specs.Form.{Form}
use Rattle.timing.specs.FormLaws.{FormLaws, onefold_laws, twofold_laws}
use Rattle.timing.specs.Loop.{lacks, runs, consumed, pending, track_back}
use Rattle.timing.specs.Run.{Sync, Given, line, ran, Outcome, done, called_real, refused_call, done_complex, called_complex}
use Rattle.timing.specs.Sparing.{Sparing}
use Rattle.timing.proofs.Laws.Clock.{running-back, running_more}
use Rattle.timing.proofs.Laws.Loop.{runs-count, runs-running, runs-stuck}
use Rattle.timing.proofs.Laws.Shown.{length-slice}

-- ---- a run
module _ {A : Type 0} (o : Ops A) (s : Sync A) (xs : List A) (places : ℕ) where
  long : length (line s.hist xs) ≡ length xs + 3
  long = omega arith

  pub ran-given : Given s → Given (ran o s xs places).state
  unfolding ran consumed pending track_back
  ran-given g =
      let p = s.params in
      let u = (runs o p (line s.hist xs) places s.track).last in
      running-back p u.clock (lacks p u) (length xs) (runs-running o p (line s.hist xs) (length xs) long places s.track (running_more p s.track.clock (lacks p s.track) (length xs) g))

  pub ran-produced : length (ran o s xs places).values ≤ places
  unfolding ran
  ran-produced = runs-count o s.params (line s.hist xs) places s.track

  ran-consumed : (ran o s xs places).taken ≤ length xs
  unfolding ran consumed
  ran-consumed = omega arith

  pub ran-all : length (ran o s xs places).values < places → (ran o s xs places).taken ≡ length xs
  unfolding ran consumed
  ran-all h = let k = runs-stuck o s.params (line s.hist xs) (length xs) long places s.track h in omega arith

-- ---- A10: what a call leaves
done-sparing : {A : Type 0} (o : Ops A) {m : Form A} (keeps : FormLaws m) (s : Sync A) (xs : List A) (places : ℕ) (ys : List Float) → m.width * places ≤ length ys → Sparing m.width (length xs) places ys (done m.slice (ran o s xs places) ys)
done-sparing o {m} keeps s xs places ys room =
    let vs = (ran o s xs places).values in
    let v = m.slice vs in
    let w = length-slice keeps vs in
    let k = mul-le-mul_left m.width (ran-produced o s xs places) in
    record {
      produced = ran-produced o s xs places;
      consumed = ran-consumed o s xs places;
      all = λ z h. ran-all o s xs places h;
      rest = rw (← w) (drop-append_seam v (drop (length v) ys));
      same_length = length-append v (drop (length v) ys) ∙ (let d = length-drop (length v) ys in omega arith);
    }

-- ---- a call on real samples
module _ (s : Sync Float) (xs ys : List Float) where
  pub called_real-given : Given s → Given (called_real s xs ys).state
  unfolding called_real
  called_real-given = ran-given real s xs (length ys)

  pub called_real-sparing : Sparing 1 (length xs) (length ys) ys (called_real s xs ys)
  unfolding called_real
  called_real-sparing = done-sparing real onefold_laws s xs (length ys) ys (omega arith)

-- ---- a call on complex samples
module _ (s : Sync C32) (xs ys : List Float) where
  -- A7: where a buffer is odd, the call is refused
  pub called_complex-refused : odd_either xs ys ≡ true → called_complex s xs ys ≡ refused_call Odd s ys
  unfolding called_complex
  called_complex-refused e = rw e

  pub called_complex-done : odd_either xs ys ≡ false → called_complex s xs ys ≡ done_complex s xs ys
  unfolding called_complex
  called_complex-done e = rw e

  pub called_complex-given : Given s → Given (called_complex s xs ys).state
  unfolding called_complex
  called_complex-given g = go (odd_either xs ys)
    where
      go : (b : Bool) → Given (cond {A = Outcome C32} b (refused_call Odd s ys) (done_complex s xs ys)).state
      go true = g
      go false = ran-given complex s (samples xs) (length ys / 2) g

  pub done_complex-sparing : Sparing 2 (length xs / 2) (length ys / 2) ys (done_complex s xs ys)
  done_complex-sparing = subst (λ (n : ℕ). Sparing 2 n (length ys / 2) ys (done_complex s xs ys)) (length-samples xs) (done-sparing complex twofold_laws s (samples xs) (length ys / 2) ys (omega arith))

  pub called_complex-sparing : Sparing 2 (length xs / 2) (length ys / 2) ys (called_complex s xs ys)
  unfolding called_complex
  called_complex-sparing = go (odd_either xs ys)
    where
      go : (b : Bool) → Sparing 2 (length xs / 2) (length ys / 2) ys (cond {A = Outcome C32} b (refused_call Odd s ys) (done_complex s xs ys))
      go true = record { produced = omega arith; consumed = omega arith; all = λ z h. absurd (omega arith); rest = refl; same_length = refl }
      go false = done_complex-sparing
