-- The quotients that both loops' gains are made of (T3, C3), in f64. Definitions only.
use Rattle.std.specs.Prelude.{Float}
use Rattle.ieee.specs.Notation.{◌⊞◌, ◌⊠◌, ◌⧄◌, one₀, two₀, four₀}

-- T3: θ, which bandwidth and damping give
unfoldable pub theta : Float → Float → Float
theta bw damping = bw ⧄ (damping ⊞ one₀ ⧄ (four₀ ⊠ damping))

-- T3: d, the divisor of both quotients
unfoldable pub divisor : Float → Float → Float
divisor bw damping = let θ = theta bw damping in (one₀ ⊞ (two₀ ⊠ damping) ⊠ θ) ⊞ θ ⊠ θ

-- T3: the quotient in kp, before the detector gain divides it
unfoldable pub proportional : Float → Float → Float
proportional bw damping = ((four₀ ⊠ damping) ⊠ theta bw damping) ⧄ divisor bw damping

-- T3: the quotient in ki, likewise
unfoldable pub integral : Float → Float → Float
integral bw damping = let θ = theta bw damping in (four₀ ⊠ (θ ⊠ θ)) ⧄ divisor bw damping
