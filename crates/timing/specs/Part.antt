-- The interpolation of one part of a sample, in f32. Definitions only.
use Rattle.std.specs.Prelude.{Float}
use Rattle.std.specs.Float.{binary32}
use Rattle.std.specs.Float.Ieee.{neg}
use Rattle.ieee.specs.Notation.{◌⊕◌, ◌⊖◌, ◌⊗◌, half₀, decimal}

-- T8: 1/3 and 1/6, rounded once to f32
abbrev pub third : Float
third = decimal binary32 1 3

abbrev pub sixth : Float
sixth = decimal binary32 1 6

-- T8: the value mu after x, in a window w, x, y, z
unfoldable pub interpolated : Float → Float → Float → Float → Float → Float
interpolated w x y z mu =
    let c1 = ((neg (w ⊗ third) ⊖ x ⊗ half₀) ⊕ y) ⊖ z ⊗ sixth in
    let c2 = (w ⊗ half₀ ⊖ x) ⊕ y ⊗ half₀ in
    let c3 = ((neg (w ⊗ sixth) ⊕ x ⊗ half₀) ⊖ y ⊗ half₀) ⊕ z ⊗ sixth in
    ((c3 ⊗ mu ⊕ c2) ⊗ mu ⊕ c1) ⊗ mu ⊕ x
