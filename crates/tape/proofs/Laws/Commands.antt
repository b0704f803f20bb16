-- A byte that stands for a command has its number, and one that stands for none has no number of these. Assumes nothing.
use Rattle.std.specs.Prelude.{Ok, Err}
use Rattle.std.proofs.Common.{◌≡◌, ℕ, Bool, true, false, cond, refl}
use borrow.Author.Tests.{eqb-true, eqb-false}
use Rattle.values.specs.declared.error.Refusal.{Refusal}
use Rattle.values.specs.declared.error.Refusal.TheVariants.{Undefined}
use Rattle.std.specs.Prelude.{Result}
use Rattle.tape.specs.declared.command.Command.{Command}
use Rattle.tape.specs.declared.command.Command.TheVariants.{Carrier, Timing, Samples, Reset}
use Rattle.tape.specs.Command.{command_of}

-- by the four tests
abbrev by : Bool → Bool → Bool → Bool → Result Command Refusal
by x y z w = cond x (Ok Carrier) (cond y (Ok Timing) (cond z (Ok Samples) (cond w (Ok Reset) (Err Undefined))))

module _ {k : Command} where
  first : (x y z w : Bool) → Ok k ≡ by x y z w → k ≡ Carrier → x ≡ true
  first true y z w e f = refl
  first false true z w e f = cc
  first false false true w e f = cc
  first false false false true e f = cc
  first false false false false e f = cc

  second : (x y z w : Bool) → Ok k ≡ by x y z w → k ≡ Timing → y ≡ true
  second true y z w e f = cc
  second false true z w e f = refl
  second false false true w e f = cc
  second false false false true e f = cc
  second false false false false e f = cc

  third : (x y z w : Bool) → Ok k ≡ by x y z w → k ≡ Samples → z ≡ true
  third true y z w e f = cc
  third false true z w e f = cc
  third false false true w e f = refl
  third false false false true e f = cc
  third false false false false e f = cc

  fourth : (x y z w : Bool) → Ok k ≡ by x y z w → k ≡ Reset → w ≡ true
  fourth true y z w e f = cc
  fourth false true z w e f = cc
  fourth false false true w e f = cc
  fourth false false false true e f = refl
  fourth false false false false e f = cc

none-met : {r : Refusal} (x y z w : Bool) → Err r ≡ by x y z w → (x ≡ false) × (y ≡ false) × (z ≡ false) × (w ≡ false) × (r ≡ Undefined)
none-met true y z w e = absurd cc
none-met false true z w e = absurd cc
none-met false false true w e = absurd cc
none-met false false false true e = absurd cc
none-met false false false false e = (refl, refl, refl, refl, cc)

module _ (b : ℕ) where
  module _ {k : Command} (is : Ok k ≡ command_of b) where
    pub carrier-byte : k ≡ Carrier → b ≡ 1
    carrier-byte e = eqb-true b 1 (first _ _ _ _ is e)

    pub timing-byte : k ≡ Timing → b ≡ 2
    timing-byte e = eqb-true b 2 (second _ _ _ _ is e)

    pub samples-byte : k ≡ Samples → b ≡ 3
    samples-byte e = eqb-true b 3 (third _ _ _ _ is e)

    pub reset-byte : k ≡ Reset → b ≡ 4
    reset-byte e = eqb-true b 4 (fourth _ _ _ _ is e)

  pub other-byte : {r : Refusal} → Err r ≡ command_of b → (b ≡ 1 → ⊥) × (b ≡ 2 → ⊥) × (b ≡ 3 → ⊥) × (b ≡ 4 → ⊥) × (r ≡ Undefined)
  other-byte is =
      let n = none-met _ _ _ _ is in
      (eqb-false b 1 n.0, eqb-false b 2 n.1, eqb-false b 3 n.2, eqb-false b 4 n.3, n.4)
