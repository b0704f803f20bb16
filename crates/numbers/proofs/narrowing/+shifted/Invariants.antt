-- The measure of `numbers::shifted`: the count of places left. Assumes nothing.
use Rattle.numbers.proofs.narrowing.+shifted.Given as goal

abbrev pub decreases-shifted : goal.decreases-shifted
decreases-shifted l = l.places
