-- `replay_states::carrier_words` meets its contract, word by word. Assumes nothing.
use Rattle.replay_states.specs.Words.{carrier_words}
use Rattle.replay_states.proofs.words.carrier_words.Goals as goal

pub returns : goal.returns
unfolding carrier_words
returns c = cc
