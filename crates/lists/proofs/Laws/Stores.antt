-- Values stored in a list: one part after another; and loops that store from the front on. Assumes nothing.
use mathlib.Core.Path.{◌≡◌, sym, ap, ◌∙◌}
use mathlib.Core.List.{List, [], ◌∷◌, ◌++◌}
use Prim.Native.Nat.{ℕ, suc, ◌+◌, ◌<◌}
use native.Mathlib.Nat.{add-zero, zero-add}
use native.Mathlib.Omega.{arith}
use lib.ListN.{length, get_or, take, set}
use lib.Seq.{sets, length-sets, length-take-le}
use Rattle.std.proofs.lemmas.List.{take_more}

pub sets-append : {A : Type 0} (l : List A) (i : ℕ) (vs ws : List A) → sets l i (vs ++ ws) ≡ sets (sets l i vs) (i + length vs) ws
sets-append l i [] ws = rw add-zero
sets-append l i (a ∷ vs) ws =
    let e : suc i + length vs ≡ i + suc (length vs) = omega arith in
    rw (← e) (sets-append (set l i a) (suc i) vs ws)

-- l is l₀ with vs stored from its front
pub record Stored {A : Type 0} (l₀ vs l : List A) : Type 0 where
  pub is : l ≡ sets l₀ 0 vs
  pub long : length l ≡ length l₀

module _ {A : Type 0} (l₀ : List A) where
  stored : (vs : List A) {l : List A} → l ≡ sets l₀ 0 vs → Stored l₀ vs l
  stored vs e = record { is = e; long = ap length e ∙ length-sets l₀ 0 vs }

  -- nothing is stored
  pub begins : {vs : List A} → vs ≡ [] → Stored l₀ vs l₀
  begins {vs} e = stored vs (ap (sets l₀ 0) (sym e))

  -- ws behind n values
  pub goes_on : {vs l : List A} → Stored l₀ vs l → {n : ℕ} → n ≡ length vs → (ws : List A) {m us : List A} → m ≡ sets l n ws → us ≡ vs ++ ws → Stored l₀ us m
  goes_on {vs} {l} s {n} e ws {m} {us} f g =
      stored us
      (f
      ∙ (λ j. sets (s.is j) (e j) ws)
      ∙ ap (λ (i : ℕ). sets (sets l₀ 0 vs) i ws) (sym (zero-add (length vs)))
      ∙ sym (sets-append l₀ 0 vs ws)
      ∙ ap (sets l₀ 0) (sym g))

-- the elements of vs are stored one by one
pub one_more : {A : Type 0} (l₀ vs : List A) (k : ℕ) (d : A) → k < length vs → {l : List A} → Stored l₀ (take k vs) l → {x : A} → x ≡ get_or vs k d → {m : List A} → m ≡ set l k x → Stored l₀ (take (k + 1) vs) m
one_more l₀ vs k d h {l} s e f = goes_on l₀ s (sym (length-take-le k vs (omega arith))) (get_or vs k d ∷ []) (f ∙ ap (set l k) e) (take_more vs k d h)
