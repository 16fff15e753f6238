use Rattle.vt_tiles.proofs.Stored.{stored_words_are_small}
use Rattle.vt_tiles.proofs.laws.stored_words_are_small.Goals as goal

pub returns : goal.returns
returns c = stored_words_are_small
