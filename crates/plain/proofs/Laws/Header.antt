-- L4, L11 and E1 to E11: the codes and numbers are those of the header. Assumes nothing.
use mathlib.Core.Path.{refl}
use Rattle.plain.specs.Header.{Header}

pub header : Header
header = record {
  gardner-in = refl;
  gardner-out = refl;
  mueller-mueller-in = refl;
  mueller-mueller-out = refl;
  bpsk-in = refl;
  bpsk-out = refl;
  qpsk-in = refl;
  qpsk-out = refl;
  psk8-in = refl;
  psk8-out = refl;
  no_symbol = refl;
  done = λ p. refl;
  pace = refl;
  width = refl;
  damping = refl;
  pull = refl;
  slope = refl;
  gains = refl;
  uneven = refl;
  odd = refl;
  undefined = refl;
  cut = refl;
  early = refl;
}
