-- Digits in lines: the text of two parts, one after the other, is the text of the whole; and the loop that lays
-- digits out. Assumes nothing.
use Rattle.std.proofs.Common.{◌≡◌, ℕ, ◌+◌, ◌*◌, ◌%◌, ◌<◌, ◌≤◌, Bool, true, false, cond, eqb, List, [], ◌∷◌, ◌++◌, length, get_or, take, set, refl, ap, ◌∙◌, add-zero, add-one, arith, length-append, length-take-le, eq-eqb, ne_eqb}
use lib.Seq.{sets}
use Rattle.recordings.specs.Text.{lined}
use Rattle.std.proofs.lemmas.List.{take_more}
use Rattle.lists.proofs.Laws.Stores.{Stored, begins, goes_on}

-- so the text does not show how the digits were cut
pub lined-append : (n : ℕ) (ds es : List ℕ) → lined n (ds ++ es) ≡ lined n ds ++ lined (n + length ds) es
unfolding lined
lined-append n [] es = rw add-zero
lined-append n (d ∷ ds) es =
    let e : n + 1 + length ds ≡ n + length (d ∷ ds) = omega arith in
    by (eqb (n % 64) 63) (lined-append (n + 1) ds es ∙ ap (λ (k : ℕ). lined (n + 1) ds ++ lined k es) e)
  where
    by : (b : Bool) → lined (n + 1) (ds ++ es) ≡ lined (n + 1) ds ++ lined (n + length (d ∷ ds)) es → cond b (d ∷ 10 ∷ lined (n + 1) (ds ++ es)) (d ∷ lined (n + 1) (ds ++ es)) ≡ cond b (d ∷ 10 ∷ lined (n + 1) ds) (d ∷ lined (n + 1) ds) ++ lined (n + length (d ∷ ds)) es
    by true e = ap (λ (l : List ℕ). d ∷ 10 ∷ l) e
    by false e = ap (λ (l : List ℕ). d ∷ l) e

-- ---- one digit
module _ (n d : ℕ) where
  inside : (n % 64 ≡ 63 → ⊥) → lined n (d ∷ []) ≡ d ∷ []
  unfolding lined
  inside h = rw (ne_eqb (n % 64) 63 h)

  full : n % 64 ≡ 63 → lined n (d ∷ []) ≡ d ∷ 10 ∷ []
  unfolding lined
  full h = rw (eq-eqb (n % 64) 63 h)

-- ---- the invariant: i of the digits ds are laid out in the text t, behind n others; `count` bytes are written
pub record Laying (n : ℕ) (ds t₀ t : List ℕ) (column count i : ℕ) : Type 0 where
  pub within : i ≤ length ds
  pub few : count ≤ 2 * i
  pub column-is : column ≡ (n + i) % 64
  pub count-is : count ≡ length (lined n (take i ds))
  pub text : Stored t₀ (lined n (take i ds)) t

module _ {n : ℕ} {ds t₀ : List ℕ} where
  pub laying-begins : Laying n ds t₀ t₀ (n % 64) 0 0
  unfolding lined
  laying-begins = record { within = omega arith; few = omega arith; column-is = omega arith; count-is = refl; text = begins t₀ refl }

  module _ {t : List ℕ} {column count i : ℕ} (u : Laying n ds t₀ t column count i) (there : i < length ds) where
    next-line : {ws : List ℕ} → lined (n + i) (get_or ds i 0 ∷ []) ≡ ws → lined n (take (i + 1) ds) ≡ lined n (take i ds) ++ ws
    next-line e =
        ap (lined n) (take_more ds i 0 there)
        ∙ lined-append n (take i ds) (get_or ds i 0 ∷ [])
        ∙ ap (λ (l : List ℕ). lined n (take i ds) ++ l) (ap (λ (k : ℕ). lined (n + k) (get_or ds i 0 ∷ [])) (length-take-le i ds (omega arith)) ∙ e)

    laid : (ws : List ℕ) {m : List ℕ} {next : ℕ} → m ≡ sets t count ws → lined (n + i) (get_or ds i 0 ∷ []) ≡ ws → length ws ≤ 2 → next ≡ (n + (i + 1)) % 64 → {to : ℕ} → to ≡ count + length ws → Laying n ds t₀ m next to (i + 1)
    laid ws e f small g c =
        record {
          within = omega arith;
          few = let a = u.few in omega arith;
          column-is = g;
          count-is = let a = u.count-is in let b = length-append (lined n (take i ds)) ws in let d = ap length (next-line f) in omega arith;
          text = goes_on t₀ u.text u.count-is ws e (next-line f);
        }

    pub laying-full : column ≡ 63 → {m : List ℕ} → m ≡ set t count (get_or ds i 0) → {o : List ℕ} → o ≡ set m (count + 1) 10 → {next to : ℕ} → next ≡ 0 → to ≡ count + 2 → Laying n ds t₀ o next to (i + 1)
    laying-full h e f g z = let c = u.column-is in laid (get_or ds i 0 ∷ 10 ∷ []) (f ∙ (λ j. set (e j) (add-one count j) 10)) (full (n + i) (get_or ds i 0) (omega arith)) (omega arith) (omega arith) (omega arith)

    pub laying-inside : (column ≡ 63 → ⊥) → {m : List ℕ} → m ≡ set t count (get_or ds i 0) → {next to : ℕ} → next ≡ column + 1 → to ≡ count + 1 → Laying n ds t₀ m next to (i + 1)
    laying-inside h e g z = let c = u.column-is in laid (get_or ds i 0 ∷ []) e (inside (n + i) (get_or ds i 0) (λ k. h (omega arith))) (omega arith) (omega arith) (omega arith)
