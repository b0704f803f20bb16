-- A test of a fraction against a cosine, in whole numbers: the angle is doubled until its cosine is known. What
-- passes the test is so of every cosine. Assumes nothing.
use mathlib.Core.Path.{◌≡◌, sym, ap, ◌∙◌, subst}
use mathlib.Core.Bool.{Bool, true, false, not}
use Prim.Native.Nat.{ℕ, zero, suc, ◌+◌, ◌-◌, ◌*◌, ◌^◌, ◌/◌, ◌≤◌, ◌<◌}
use native.Mathlib.Nat.{div-add-mod', div-mul-le_self, mod-lt, mul-pos}
use native.Mathlib.Omega.{arith}
use lib.Dec.{T, leb, eqb, leb→le, nleb→lt, eqb→eq}
use lib.Pow.{pow_pos}
use Rattle.cosine.specs.Cosine.{Numbers, Cosine, whole, AtLeast, AtMost}
use Rattle.cosine.proofs.Laws.System.{add-mul, mul_left, mul-nil, whole-add, whole-mul, raise, add_left, nonneg-mul, whole-nonneg, whole-mono, one-whole}

-- ---- the test
-- where in the turn the angle j lies: at 0, at a quarter, in the first quarter, in the second, after that
pub data Part : Type 0 where
  start quarter front back late outside : Part

unfoldable pub part : ℕ → Part
part j = elim (leb j 1024) [
  | true ↦ elim (eqb j 0) [ true ↦ start | false ↦ elim (eqb j 1024) [ true ↦ quarter | false ↦ front ] ]
  | false ↦ elim (leb j 2048) [ true ↦ back | false ↦ elim (leb j 4096) [ true ↦ late | false ↦ outside ] ]
]

-- a test asks whether (p - n) / c is at most the cosine of j (its first argument is true), or at least that (false)
abbrev pub Test : Type 0
Test = Bool → ℕ → ℕ → ℕ → ℕ → Bool

-- the two numbers in order, or the other way round
abbrev ordered : Bool → ℕ → ℕ → Bool
ordered true a b = leb a b
ordered false a b = leb b a

-- 2 (a / c)², as so many parts of 1 / grain: rounded up or down, to the side where the test asks for more
abbrev pub grain : ℕ
grain = 2 ^ 80

abbrev squared : Bool → ℕ → ℕ → ℕ
squared true a c = suc (2 * (a * a) * grain / (c * c))
squared false a c = 2 * (a * a) * grain / (c * c)

-- one step, where `rest` is the test at a doubled or reflected angle. In the first quarter the cosine is not
-- negative, and (p - n) / c is at most that if it is not positive, or if twice its square less 1 is at most the
-- cosine of twice the angle.
unfoldable pub double : Test → Bool → Test
double rest true s j p n c = s
double rest false s j p n c = rest s (j + j) (squared s (p - n) c) grain grain

unfoldable pub step : Test → Part → Test
step rest start s j p n c = ordered s p (n + c)
step rest quarter s j p n c = ordered s p n
step rest front s j p n c = double rest (leb p n) s j p n c
step rest back s j p n c = rest (not s) (2048 - j) n p c
step rest late s j p n c = rest s (4096 - j) p n c
step rest outside s j p n c = false

-- the test, in at most d steps
unfoldable pub shown : ℕ → Test
shown zero s j p n c = false
shown (suc d) s j p n c = step (shown d) (part j) s j p n c

-- ---- the double angle: g is the grain, C the cosine of an angle, and d that of twice the angle
module _ (N : Numbers) where
  open N use {R, nil, one, add as ◌⊕◌, mul as ◌⊗◌, le as ◌≼◌}

  infixl 65 ◌⊕◌
  infixl 70 ◌⊗◌
  infix 50 ◌≼◌
  abbrev ι : ℕ → R
  ι = whole N

  -- (g + g d) c² is 2 g (c C)²
  squares : (c g : ℕ) (C d : R) → d ⊕ one ≡ C ⊗ C ⊕ C ⊗ C → (ι g ⊕ ι g ⊗ d) ⊗ ι (c * c) ≡ ι c ⊗ C ⊗ (ι c ⊗ C) ⊗ ι (g + g)
  squares c g C d h = ap (λ (z : R). (ι g ⊕ ι g ⊗ d) ⊗ z) (whole-mul N c c) ∙ square (ι g) (ι c) ∙ ap (λ (z : R). ι c ⊗ C ⊗ (ι c ⊗ C) ⊗ z) (sym (whole-add N g g))
    where
      square : (g c : R) → (g ⊕ g ⊗ d) ⊗ (c ⊗ c) ≡ (c ⊗ C) ⊗ (c ⊗ C) ⊗ (g ⊕ g)
      square g c =
          ap (λ (z : R). z ⊗ (c ⊗ c)) (ap (λ (z : R). z ⊕ g ⊗ d) (sym (N.mul-one g)) ∙ N.add_comm (g ⊗ one) (g ⊗ d) ∙ sym (N.mul-add g d one) ∙ ap (λ (z : R). g ⊗ z) h)
          ∙ simp (add-mul N, N.mul-add, N.mul_assoc, N.mul_comm, mul_left N)

  -- 2 (a / c)² ≤ p / g and p / g - 1 ≤ d, so a / c ≤ C
  from-below : (a c g p : ℕ) (C d : R) → 1 ≤ g → 2 * (a * a) * g ≤ p * (c * c) → nil ≼ C → d ⊕ one ≡ C ⊗ C ⊕ C ⊗ C → ι p ≼ ι g ⊕ ι g ⊗ d → ι a ≼ ι c ⊗ C
  from-below a c g p C d G h k e l =
      let X = ι c ⊗ C in
      let x : ι (a * a * (g + g)) ≼ ι (p * (c * c)) = whole-mono N (a * a * (g + g)) (p * (c * c)) (omega arith) in
      let y : ι p ⊗ ι (c * c) ≼ (ι g ⊕ ι g ⊗ d) ⊗ ι (c * c) = N.le-mul (ι p) (ι g ⊕ ι g ⊗ d) (ι (c * c)) (whole-nonneg N (c * c)) l in
      N.le-root (ι a) X (whole-nonneg N a) (nonneg-mul N (ι c) C (whole-nonneg N c) k)
      (N.le-cancel (ι a ⊗ ι a) (X ⊗ X) (ι (g + g)) (one-whole N (g + g) (omega arith))
      (subst (λ (z : R). z ≼ X ⊗ X ⊗ ι (g + g)) (whole-mul N (a * a) (g + g) ∙ ap (λ (z : R). z ⊗ ι (g + g)) (whole-mul N a a))
      (N.le_trans (ι (a * a * (g + g))) (ι (p * (c * c))) (X ⊗ X ⊗ ι (g + g)) x
      (subst (λ (z : R). z ≼ X ⊗ X ⊗ ι (g + g)) (sym (whole-mul N p (c * c))) (subst (λ (z : R). ι p ⊗ ι (c * c) ≼ z) (squares c g C d e) y)))))

  -- p / g ≤ 2 (a / c)² and d ≤ p / g - 1, so C ≤ a / c
  from-above : (a c g p : ℕ) (C d : R) → 1 ≤ g → p * (c * c) ≤ 2 * (a * a) * g → nil ≼ C → d ⊕ one ≡ C ⊗ C ⊕ C ⊗ C → ι g ⊕ ι g ⊗ d ≼ ι p → ι c ⊗ C ≼ ι a
  from-above a c g p C d G h k e l =
      let X = ι c ⊗ C in
      let x : ι (p * (c * c)) ≼ ι (a * a * (g + g)) = whole-mono N (p * (c * c)) (a * a * (g + g)) (omega arith) in
      let y : (ι g ⊕ ι g ⊗ d) ⊗ ι (c * c) ≼ ι p ⊗ ι (c * c) = N.le-mul (ι g ⊕ ι g ⊗ d) (ι p) (ι (c * c)) (whole-nonneg N (c * c)) l in
      N.le-root X (ι a) (nonneg-mul N (ι c) C (whole-nonneg N c) k) (whole-nonneg N a)
      (N.le-cancel (X ⊗ X) (ι a ⊗ ι a) (ι (g + g)) (one-whole N (g + g) (omega arith))
      (subst (λ (z : R). X ⊗ X ⊗ ι (g + g) ≼ z) (whole-mul N (a * a) (g + g) ∙ ap (λ (z : R). z ⊗ ι (g + g)) (whole-mul N a a))
      (N.le_trans (X ⊗ X ⊗ ι (g + g)) (ι (p * (c * c))) (ι (a * a * (g + g)))
      (subst (λ (z : R). X ⊗ X ⊗ ι (g + g) ≼ z) (sym (whole-mul N p (c * c))) (subst (λ (z : R). z ≼ ι p ⊗ ι (c * c)) (squares c g C d e) y)) x)))

  -- ---- the reflected angle: y + y' = 0, so what is said of one says the opposite of the other
  away : (p c y y' : R) → y ⊕ y' ≡ nil → p ⊕ c ⊗ y' ⊕ c ⊗ y ≡ p
  away p c y y' e = N.add_assoc p (c ⊗ y') (c ⊗ y) ∙ ap (λ (z : R). p ⊕ z) (sym (N.mul-add c y' y) ∙ ap (λ (z : R). c ⊗ z) (N.add_comm y' y ∙ e) ∙ mul-nil N c) ∙ N.add-nil p

  reflect-below : (p n c y y' : R) → y ⊕ y' ≡ nil → p ⊕ c ⊗ y' ≼ n → p ≼ n ⊕ c ⊗ y
  reflect-below p n c y y' e h = subst (λ (z : R). z ≼ n ⊕ c ⊗ y) (away p c y y' e) (N.le-add (p ⊕ c ⊗ y') n (c ⊗ y) h)

  reflect-above : (p n c y y' : R) → y ⊕ y' ≡ nil → n ≼ p ⊕ c ⊗ y' → n ⊕ c ⊗ y ≼ p
  reflect-above p n c y y' e h = subst (λ (z : R). n ⊕ c ⊗ y ≼ z) (away p c y y' e) (N.le-add n (p ⊕ c ⊗ y') (c ⊗ y) h)

-- ---- what `part` says of the angle
abbrev Lies : Part → ℕ → Type 0
Lies start j = j ≡ 0
Lies quarter j = j ≡ 1024
Lies front j = j ≤ 1024
Lies back j = j ≤ 2048
Lies late j = j ≤ 4096
Lies outside j = Unit {0}

lies : (j : ℕ) → Lies (part j) j
unfolding part
lies j = go (leb j 1024) (eqb j 0) (eqb j 1024) (leb j 2048) (leb j 4096) (leb→le j 1024) (eqb→eq j 0) (eqb→eq j 1024) (leb→le j 2048) (leb→le j 4096)
  where
    go : (a b c d e : Bool) → (T a → j ≤ 1024) → (T b → j ≡ 0) → (T c → j ≡ 1024) → (T d → j ≤ 2048) → (T e → j ≤ 4096)
        → Lies (elim a [ true ↦ elim b [ true ↦ start | false ↦ elim c [ true ↦ quarter | false ↦ front ] ] | false ↦ elim d [ true ↦ back | false ↦ elim e [ true ↦ late | false ↦ outside ] ] ]) j
    go true true c d e h k l m n = k tt
    go true false true d e h k l m n = l tt
    go true false false d e h k l m n = h tt
    go false b c true e h k l m n = m tt
    go false b c false true h k l m n = n tt
    go false b c false false h k l m n = tt

-- ---- what passes the test is so
rounded-up : (a b : ℕ) → 0 < b → a ≤ suc (a / b) * b
rounded-up a b B =
    let w = div-add-mod' a b in
    let m = mod-lt a B in
    omega arith

module _ (N : Numbers) (cosine : ℕ → N.R) (K : Cosine N cosine) where
  open N use {R, nil, add as ◌⊕◌, mul as ◌⊗◌, le as ◌≼◌}

  infixl 65 ◌⊕◌
  infixl 70 ◌⊗◌
  infix 50 ◌≼◌
  -- what the test asks
  abbrev pub Asked : Bool → ℕ → ℕ → ℕ → ℕ → Type 0
  Asked true j p n c = AtLeast N (cosine j) (record { plus = p; less = n; over = c })
  Asked false j p n c = AtMost N (cosine j) (record { plus = p; less = n; over = c })

  abbrev Sound : Test → Type 0
  Sound rest = (s : Bool) (j p n c : ℕ) → 0 < c → T (rest s j p n c) → Asked s j p n c

  split : (p n : ℕ) → n ≤ p → whole N p ≡ whole N n ⊕ whole N (p - n)
  split p n h = ap (whole N) (omega arith) ∙ whole-add N n (p - n)

  double-sound : (rest : Test) → Sound rest → (t s : Bool) (j p n c : ℕ) → 0 < c → j ≤ 1024 → (T t → p ≤ n) → (T (not t) → n < p) → T (double rest t s j p n c) → Asked s j p n c
  unfolding double
  double-sound rest ih true false j p n c C J h k t = absurd t
  double-sound rest ih true true j p n c C J h k t =
      N.le_trans (whole N p) (whole N n) (whole N n ⊕ whole N c ⊗ cosine j) (whole-mono N p n (h tt))
      (raise N (whole N n) (whole N c ⊗ cosine j) (nonneg-mul N (whole N c) (cosine j) (whole-nonneg N c) (K.front j J)))
  double-sound rest ih false true j p n c C J h k t =
      let l : n < p = k tt in
      let a = p - n in
      subst (λ (z : R). z ≼ whole N n ⊕ whole N c ⊗ cosine j) (sym (split p n (omega arith)))
      (add_left N (whole N a) (whole N c ⊗ cosine j) (whole N n)
      (from-below N a c grain (suc (2 * (a * a) * grain / (c * c))) (cosine j) (cosine (j + j)) (pow_pos 80) (rounded-up (2 * (a * a) * grain) (c * c) (mul-pos C C)) (K.front j J) (K.double j)
      (ih true (j + j) (suc (2 * (a * a) * grain / (c * c))) grain grain (pow_pos 80) t)))
  double-sound rest ih false false j p n c C J h k t =
      let l : n < p = k tt in
      let a = p - n in
      subst (λ (z : R). whole N n ⊕ whole N c ⊗ cosine j ≼ z) (sym (split p n (omega arith)))
      (add_left N (whole N c ⊗ cosine j) (whole N a) (whole N n)
      (from-above N a c grain (2 * (a * a) * grain / (c * c)) (cosine j) (cosine (j + j)) (pow_pos 80) (div-mul-le_self (2 * (a * a) * grain) (c * c)) (K.front j J) (K.double j)
      (ih false (j + j) (2 * (a * a) * grain / (c * c)) grain grain (pow_pos 80) t)))

  -- the cosine is a whole number, so that n + c times it is the whole number m
  known : (s : Bool) (j p n c m : ℕ) → whole N m ≡ whole N n ⊕ whole N c ⊗ cosine j → T (ordered s p m) → Asked s j p n c
  known true j p n c m e t = subst (λ (z : R). whole N p ≼ z) e (whole-mono N p m (leb→le p m t))
  known false j p n c m e t = subst (λ (z : R). z ≼ whole N p) e (whole-mono N m p (leb→le m p t))

  step-sound : (rest : Test) → Sound rest → (π : Part) (s : Bool) (j p n c : ℕ) → 0 < c → Lies π j → T (step rest π s j p n c) → Asked s j p n c
  unfolding step
  step-sound rest ih start s j p n c C l t =
      known s j p n c (n + c) (whole-add N n c ∙ ap (λ (z : R). whole N n ⊕ z) (sym (N.mul-one (whole N c)) ∙ ap (λ (z : R). whole N c ⊗ z) (sym K.start ∙ ap cosine (sym l)))) t
  step-sound rest ih quarter s j p n c C l t =
      known s j p n c n (sym (N.add-nil (whole N n)) ∙ ap (λ (z : R). whole N n ⊕ z) (sym (mul-nil N (whole N c)) ∙ ap (λ (z : R). whole N c ⊗ z) (sym K.quarter ∙ ap cosine (sym l)))) t
  step-sound rest ih front s j p n c C l t = double-sound rest ih (leb p n) s j p n c C l (leb→le p n) (nleb→lt p n) t
  step-sound rest ih back true j p n c C l t = reflect-below N (whole N p) (whole N n) (whole N c) (cosine j) (cosine (2048 - j)) (K.mirrored j l) (ih false (2048 - j) n p c C t)
  step-sound rest ih back false j p n c C l t = reflect-above N (whole N p) (whole N n) (whole N c) (cosine j) (cosine (2048 - j)) (K.mirrored j l) (ih true (2048 - j) n p c C t)
  step-sound rest ih late true j p n c C l t = rw (K.backward j l) (ih true (4096 - j) p n c C t)
  step-sound rest ih late false j p n c C l t = rw (K.backward j l) (ih false (4096 - j) p n c C t)
  step-sound rest ih outside s j p n c C l t = absurd t

  pub shown-sound : (d : ℕ) → Sound (shown d)
  unfolding shown
  shown-sound zero s j p n c C t = absurd t
  shown-sound (suc d) s j p n c C t = step-sound (shown d) (shown-sound d) (part j) s j p n c C (lies j) t
