-- L4, L11 and E1 to E11: the codes and numbers that bindings/c/train_receiver.h names, which a program in C has compiled
-- into it. (The number of "too large", L13, is `too_large_number` of `plain_records`.) Definitions only.
use Rattle.std.specs.Prelude.{◌≡◌, None, Ok}
use Rattle.values.specs.declared.error.Refusal.TheVariants.{Pace, Width, Damping, Pull, Slope, Gains, Uneven, Odd, Undefined, Cut, Early}
use Rattle.values.specs.declared.progress.Progress.{Progress}
use Rattle.values.specs.Refusal.{number_of}
use Rattle.timing.specs.declared.params.Ted.TheVariants.{Gardner, MuellerMuller}
use Rattle.constellations.specs.declared.kinds.CostasConstellation.TheVariants.{Bpsk, Qpsk, Psk8}
use Rattle.plain.specs.Codes.{detector_of, detector_code, constellation_of, constellation_code, symbol_code}
use Rattle.values.specs.Counts.{counts_of}

pub record Header : Type 0 where
  -- TRR_GARDNER and TRR_MUELLER_MUELLER, as they come in and as they go out
  pub gardner-in : detector_of 0 ≡ Gardner
  pub gardner-out : detector_code Gardner ≡ 0
  pub mueller-mueller-in : detector_of 1 ≡ MuellerMuller
  pub mueller-mueller-out : detector_code MuellerMuller ≡ 1
  -- TRR_BPSK, TRR_QPSK and TRR_PSK8
  pub bpsk-in : constellation_of 0 ≡ Bpsk
  pub bpsk-out : constellation_code Bpsk ≡ 0
  pub qpsk-in : constellation_of 1 ≡ Qpsk
  pub qpsk-out : constellation_code Qpsk ≡ 1
  pub psk8-in : constellation_of 2 ≡ Psk8
  pub psk8-out : constellation_code Psk8 ≡ 2
  -- TRR_NO_SYMBOL
  pub no_symbol : symbol_code None ≡ 255
  -- TRR_DONE, and the numbers of the refusals in the order of their table
  pub done : (p : Progress) → (counts_of (Ok p)).number ≡ 0
  pub pace : number_of Pace ≡ 1
  pub width : number_of Width ≡ 2
  pub damping : number_of Damping ≡ 3
  pub pull : number_of Pull ≡ 4
  pub slope : number_of Slope ≡ 5
  pub gains : number_of Gains ≡ 6
  pub uneven : number_of Uneven ≡ 7
  pub odd : number_of Odd ≡ 8
  pub undefined : number_of Undefined ≡ 9
  pub cut : number_of Cut ≡ 10
  pub early : number_of Early ≡ 11
