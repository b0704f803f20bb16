-- How a recording is cut does not show (B3 to B6): for calls that each take all their input, for calls with any
-- places whose rest is handed again, and what that says of the symbols' instants. Assumes nothing.
use mathlib.Core.Path.{◌≡◌, refl, sym, ap, ◌∙◌, subst}
use mathlib.Core.List.{List, [], ◌++◌}
use Prim.Native.Nat.{◌%◌}
use lib.ListN.{length}
use lib.Ieee.{Float}
use Rattle.receiver.specs.Record.{Receiver, Given}
use Rattle.sample_calls.specs.Calls.{Call}
use Rattle.blocks.specs.Receiver.{start, Heard, recorded, heard, left, TakesAll, Roomy, again, often_enough, APlace}
use Rattle.blocks.proofs.Laws.Recording.{cut-never-shows}
use Rattle.blocks.proofs.Laws.Taken.{takes-left, roomy-takes, recorded-again, again-left}

-- from any given receiver, for any two ways of cutting one recording into calls
module _ (r : Receiver) (given : Given r) (cs ds : List Call) (same : recorded cs ≡ recorded ds) where
  -- B3: each call has places enough that it takes all its input
  pub blocks-do-not-matter : TakesAll (start r) cs → TakesAll (start r) ds → heard (start r) cs ≡ heard (start r) ds
  blocks-do-not-matter all each = cut-never-shows r given cs ds same (takes-left cs (start r) refl all) (takes-left ds (start r) refl each)

  -- B4: the lengths of the buffers ensure this
  pub roomy-blocks-do-not-matter : Roomy cs → Roomy ds → heard (start r) cs ≡ heard (start r) ds
  roomy-blocks-do-not-matter all each = blocks-do-not-matter (roomy-takes cs r given all) (roomy-takes ds r given each)

  -- B5: the calls have any places, and what is left is handed again
  pub handed-again : (zs ys vs us : List Float) → APlace zs ys → APlace vs us → length (recorded cs) % 2 ≡ 0 → heard (start r) (cs ++ again (often_enough cs) zs ys) ≡ heard (start r) (ds ++ again (often_enough ds) vs us)
  handed-again zs ys vs us lent also even =
      cut-never-shows r given (cs ++ again (often_enough cs) zs ys) (ds ++ again (often_enough ds) vs us)
      (recorded-again cs (often_enough cs) zs ys ∙ same ∙ sym (recorded-again ds (often_enough ds) vs us))
      (again-left r cs zs ys given lent even)
      (again-left r ds vs us given also (subst (λ (l : List Float). length l % 2 ≡ 0) same even))

  -- B6: the instants of the symbols, counted from the recording's start, do not depend on the blocks
  pub instants-do-not-move : left r cs ≡ [] → left r ds ≡ [] → (heard (start r) cs).instants ≡ (heard (start r) ds).instants
  instants-do-not-move none nothing = ap (λ (h : Heard). h.instants) (cut-never-shows r given cs ds same none nothing)
