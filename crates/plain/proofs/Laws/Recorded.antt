-- L1: records that stand for states faithfully, of any kind: what holds of the record that a function gives for a
-- state, and that two given records of one state are one. Assumes nothing.
use mathlib.Core.Path.{◌≡◌, sym, ap, ◌∙◌, subst}
use Rattle.plain.specs.Faithful.{Faithful}

module _ {R S : Type 0} {state_of : R → S} {record_of : S → R} {GivenState : S → Type 0} {GivenRecord : R → Type 0} (F : Faithful state_of record_of GivenState GivenRecord) where
  -- the record of a given state is given; docs/code-not-defined.patch cites it
  pub stays-given : {x : R} {s : S} → x ≡ record_of s → GivenState s → GivenRecord x
  stays-given {s = s} e g = subst GivenRecord (sym e) (F.given_out s g)

  -- L2: a call that leaves the state leaves the record
  pub same-record : {x y : R} → GivenRecord x → GivenRecord y → state_of x ≡ state_of y → x ≡ y
  same-record {x} {y} g h e = sym (F.record-back x g) ∙ ap record_of e ∙ F.record-back y h
