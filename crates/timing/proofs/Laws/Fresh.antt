-- A fresh state of any sample type is given: before the first strobe no middle is lacking, whichever the detector.
-- Assumes nothing.
use Rattle.std.proofs.Common.{◌≡◌, Bool, false, sym, refl, subst}
use Rattle.timing.specs.declared.params.Ted.{Ted}
use Rattle.timing.specs.declared.params.Ted.TheVariants.{Gardner, MuellerMuller}
use Rattle.timing.specs.declared.params.Params.{Params}
use Rattle.timing.specs.Sample.{Ops}
use Rattle.timing.specs.Clock.{lacking}
use Rattle.timing.specs.Given.{Tuned, Running}
use Rattle.timing.specs.Run.{Given, fresh}
use Rattle.timing.proofs.Laws.Clock.{running-fresh}

not-lacking-before : (ted : Ted) (ready : Bool) → lacking ted false ready ≡ false
unfolding lacking
not-lacking-before Gardner ready = refl
not-lacking-before MuellerMuller ready = refl

pub fresh-given : {A : Type 0} (o : Ops A) (p : Params) → Tuned p → Given (fresh o p)
fresh-given o p t = subst (λ (lack : Bool). Running p (fresh o p).track.clock lack 0) (sym (not-lacking-before p.ted false)) (running-fresh p t)
