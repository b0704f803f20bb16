-- Whole numbers in any number system: sums, products and the order carry over, the strict order too. A number against
-- two fractions. Assumes nothing.
use mathlib.Core.Path.{◌≡◌, sym, ap, ◌∙◌, subst}
use Prim.Native.Nat.{ℕ, zero, suc, ◌+◌, ◌-◌, ◌*◌, ◌≤◌, ◌<◌}
use native.Mathlib.Nat.{add-zero, add-suc, mul-suc, mul-zero, mul_comm}
use native.Mathlib.Omega.{arith}
use Rattle.ieee.specs.Fraction.{Fraction}
use Rattle.cosine.specs.Cosine.{Numbers, whole, AtLeast, AtMost}

-- q < r
abbrev pub Before : Fraction → Fraction → Type 0
Before q r = q.plus * r.over + r.less * q.over < r.plus * q.over + q.less * r.over

module _ (N : Numbers) where
  open N use {R, nil, one, minus, add as ◌⊕◌, mul as ◌⊗◌, le as ◌≼◌}

  infixl 65 ◌⊕◌
  infixl 70 ◌⊗◌
  infix 50 ◌≼◌
  abbrev ι : ℕ → R
  ι = whole N

  -- ---- sums and products
  pub add-mul : (a b c : R) → (a ⊕ b) ⊗ c ≡ a ⊗ c ⊕ b ⊗ c
  add-mul a b c = N.mul_comm (a ⊕ b) c ∙ N.mul-add c a b ∙ ap (λ (z : R). z ⊕ c ⊗ b) (N.mul_comm c a) ∙ ap (λ (z : R). a ⊗ c ⊕ z) (N.mul_comm c b)

  pub mul_left : (a b c : R) → a ⊗ (b ⊗ c) ≡ b ⊗ (a ⊗ c)
  mul_left a b c = sym (N.mul_assoc a b c) ∙ ap (λ (z : R). z ⊗ c) (N.mul_comm a b) ∙ N.mul_assoc b a c

  add_back : (a b : R) → a ⊕ b ⊕ minus b ≡ a
  add_back a b = N.add_assoc a b (minus b) ∙ ap (λ (z : R). a ⊕ z) (N.add-minus b) ∙ N.add-nil a

  nil-add : (a : R) → nil ⊕ a ≡ a
  nil-add a = N.add_comm nil a ∙ N.add-nil a

  pub mul-nil : (a : R) → a ⊗ nil ≡ nil
  mul-nil a =
      sym (add_back (a ⊗ nil) (a ⊗ one))
      ∙ ap (λ (z : R). z ⊕ minus (a ⊗ one)) (sym (N.mul-add a nil one) ∙ ap (λ (z : R). a ⊗ z) (nil-add one))
      ∙ N.add-minus (a ⊗ one)

  pub whole-add : (a b : ℕ) → ι (a + b) ≡ ι a ⊕ ι b
  unfolding whole
  whole-add a zero = rw add-zero (sym (N.add-nil (ι a)))
  whole-add a (suc b) = rw (add-suc a b) (ap (λ (z : R). z ⊕ one) (whole-add a b) ∙ N.add_assoc (ι a) (ι b) one)

  pub whole-mul : (a b : ℕ) → ι (a * b) ≡ ι a ⊗ ι b
  unfolding whole
  whole-mul a zero = rw mul-zero (sym (mul-nil (ι a)))
  whole-mul a (suc b) =
      rw (mul-suc a b)
      (whole-add (a * b) a ∙ ap (λ (z : R). z ⊕ ι a) (whole-mul a b) ∙ ap (λ (z : R). ι a ⊗ ι b ⊕ z) (sym (N.mul-one (ι a))) ∙ sym (N.mul-add (ι a) (ι b) one))

  -- ---- the order
  pub raise : (x y : R) → nil ≼ y → x ≼ x ⊕ y
  raise x y h = subst (λ (z : R). z ≼ x ⊕ y) (nil-add x) (subst (λ (z : R). nil ⊕ x ≼ z) (N.add_comm y x) (N.le-add nil y x h))

  pub add_left : (a b c : R) → a ≼ b → c ⊕ a ≼ c ⊕ b
  add_left a b c h = subst (λ (z : R). z ≼ c ⊕ b) (N.add_comm a c) (subst (λ (z : R). a ⊕ c ≼ z) (N.add_comm b c) (N.le-add a b c h))

  pub nonneg-mul : (a b : R) → nil ≼ a → nil ≼ b → nil ≼ a ⊗ b
  nonneg-mul a b h k = subst (λ (z : R). z ≼ a ⊗ b) (N.mul_comm nil b ∙ mul-nil b) (N.le-mul nil a b k h)

  pub whole-nonneg : (n : ℕ) → nil ≼ ι n
  unfolding whole
  whole-nonneg zero = N.le_refl nil
  whole-nonneg (suc n) = N.le_trans nil (ι n) (ι n ⊕ one) (whole-nonneg n) (raise (ι n) one N.le-one)

  pub whole-mono : (a b : ℕ) → a ≤ b → ι a ≼ ι b
  whole-mono a b h = subst (λ (z : R). ι a ≼ z) (sym (whole-add a (b - a)) ∙ ap ι (omega arith)) (raise (ι a) (ι (b - a)) (whole-nonneg (b - a)))

  pub one-whole : (n : ℕ) → 1 ≤ n → one ≼ ι n
  unfolding whole
  one-whole n h = subst (λ (z : R). z ≼ ι n) (nil-add one) (whole-mono 1 n h)

  -- and strictly so: here 1 ≤ 0 has to be absurd
  pub whole-strict : (a b : ℕ) → b < a → ¬ (ι a ≼ ι b)
  whole-strict a b h k =
      let d = a - b in
      let e : ι a ≡ ι d ⊕ ι b = ap ι (omega arith) ∙ whole-add d b in
      N.not-le-nil
      (N.le_trans one (ι d) nil (one-whole d (omega arith))
      (subst (λ (z : R). z ≼ nil) (ap (λ (z : R). z ⊕ minus (ι b)) e ∙ add_back (ι d) (ι b))
      (subst (λ (z : R). ι a ⊕ minus (ι b) ≼ z) (N.add-minus (ι b)) (N.le-add (ι a) (ι b) (minus (ι b)) k))))

  -- ---- y ≤ q and r ≤ y, so q < r is absurd
  -- both sides of a fraction times k
  times : (n c k : ℕ) (y : R) → (ι n ⊕ ι c ⊗ y) ⊗ ι k ≡ ι (n * k) ⊕ ι (c * k) ⊗ y
  times n c k y = add-mul (ι n) (ι c ⊗ y) (ι k) ∙ simp (whole-mul, N.mul_assoc, N.mul_comm, mul_left)

  pub apart : (y : R) (q r : Fraction) → AtMost N y q → AtLeast N y r → ¬ (Before q r)
  apart y q r h k l =
      let c = q.over in
      let d = r.over in
      let Y = ι (c * d) ⊗ y in
      let u : ι (q.less * d) ⊕ Y ≼ ι (q.plus * d) =
      subst (λ (z : R). z ≼ ι (q.plus * d)) (times q.less c d y)
      (subst (λ (z : R). (ι q.less ⊕ ι c ⊗ y) ⊗ ι d ≼ z) (sym (whole-mul q.plus d)) (N.le-mul _ _ (ι d) (whole-nonneg d) h)) in
      let v : ι (r.plus * c) ≼ ι (r.less * c) ⊕ Y =
      subst (λ (z : R). ι (r.plus * c) ≼ z) (times r.less d c y ∙ ap (λ (z : ℕ). ι (r.less * c) ⊕ ι z ⊗ y) (mul_comm d c))
      (subst (λ (z : R). z ≼ (ι r.less ⊕ ι d ⊗ y) ⊗ ι c) (sym (whole-mul r.plus c)) (N.le-mul _ _ (ι c) (whole-nonneg c) k)) in
      whole-strict (r.plus * c + q.less * d) (q.plus * d + r.less * c) l
      (subst (λ (z : R). z ≼ ι (q.plus * d + r.less * c)) (sym (whole-add (r.plus * c) (q.less * d)))
      (subst (λ (z : R). ι (r.plus * c) ⊕ ι (q.less * d) ≼ z) (sym (whole-add (q.plus * d) (r.less * c)))
      (N.le_trans _ _ _ (N.le-add _ _ (ι (q.less * d)) v)
      (subst (λ (z : R). z ≼ ι (q.plus * d) ⊕ ι (r.less * c)) (swapped (ι (q.less * d)) Y (ι (r.less * c))) (N.le-add _ _ (ι (r.less * c)) u)))))
    where
      swapped : (a b c : R) → a ⊕ b ⊕ c ≡ c ⊕ b ⊕ a
      swapped a b c = N.add_comm (a ⊕ b) c ∙ ap (λ (z : R). c ⊕ z) (N.add_comm a b) ∙ sym (N.add_assoc c b a)
