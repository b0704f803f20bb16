-- K6: what the timing loop asks of a sample type, and its two instances, real and complex. In f32. Definitions only.
use Rattle.std.specs.Prelude.{Float}
use Rattle.std.specs.Float.{nan}
use Rattle.values.specs.declared.sample.C32.{C32}
use Rattle.ieee.specs.Notation.{◌⊕◌, ◌⊖◌, ◌⊗◌, zero₀}
use Rattle.numbers.specs.Sign.{sign_of}
use Rattle.timing.specs.Part.{interpolated}

pub record Ops (A : Type 0) : Type 0 where
  pub zero : A
  -- T8: the value of a window of four at mu
  pub interp : A → A → A → A → Float → A
  -- T14: Gardner's error, of the previous strobe, the strobe and the middle
  pub gardner : A → A → A → Float
  -- T15: the decision of a strobe
  pub decide : A → A
  -- T15: Mueller and Müller's error, of the previous decision, the strobe, its decision and the previous strobe
  pub mm : A → A → A → A → Float

abbrev pub real : Ops Float
real =
    record {
      zero = zero₀;
      interp = interpolated;
      gardner = λ q y m. (q ⊖ y) ⊗ m;
      decide = sign_of;
      mm = λ b y d q. b ⊗ y ⊖ d ⊗ q;
    }

-- complex samples: interpolation and decision act on each part, and an error adds the products of both parts
abbrev pub complex : Ops C32
complex =
    record {
      zero = record { re = zero₀; im = zero₀ };
      interp = λ w x y z mu. record { re = interpolated w.re x.re y.re z.re mu; im = interpolated w.im x.im y.im z.im mu };
      gardner = λ q y m. (q.re ⊖ y.re) ⊗ m.re ⊕ (q.im ⊖ y.im) ⊗ m.im;
      decide = λ y. record { re = sign_of y.re; im = sign_of y.im };
      mm = λ b y d q. (b.re ⊗ y.re ⊕ b.im ⊗ y.im) ⊖ (d.re ⊗ q.re ⊕ d.im ⊗ q.im);
    }

-- what the logic reads past an array's end; a window has four samples, so that none is read
abbrev pub blank : C32
blank = record { re = nan; im = nan }
