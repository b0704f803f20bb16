-- The history followed by the input, over any sample type: the samples past the history, and the places at which
-- a value is available. Assumes nothing.
use Rattle.std.proofs.Common.{◌≡◌, ℕ, suc, ◌+◌, leb, List, length, get_or, arith}
use lib.Ieee.{Float}
use Rattle.numbers.specs.Narrowing.{narrowed}
use Rattle.timing.specs.declared.sample.Window.{Window}
use Rattle.timing.specs.Sample.{Ops}
use Rattle.timing.specs.Loop.{there, window_at, value_at}
use Rattle.timing.specs.Run.{Hist, line}
use Rattle.timing.proofs.Laws.Loop.{there-leb}

module _ {A : Type 0} (h : Hist A) (xs : List A) where
  -- past the history stand the input's samples
  pub past-history : (z : A) (j k : ℕ) → j ≡ k + 3 → get_or xs k z ≡ get_or (line h xs) j z
  past-history z j k e = let g : j ≡ suc (suc (suc k)) = omega arith in rw g

  -- T7: with n input samples, the value at i is available just if i is at most n
  pub there-within : (i n : ℕ) → length xs ≡ n → there (line h xs) i ≡ leb i n
  there-within i n e = there-leb (line h xs) n (omega arith) i

-- the value of a window
pub value-of-window : {A : Type 0} (o : Ops A) (l : List A) (i : ℕ) (mu : Float) (w : Window A) (m : Float) → w ≡ window_at o l i → m ≡ narrowed mu → o.interp w.xm1 w.x0 w.x1 w.x2 m ≡ value_at o l i mu
unfolding value_at
value-of-window o l i mu w m is-w is_m = λ j. let v = is-w j in o.interp v.xm1 v.x0 v.x1 v.x2 (is_m j)
