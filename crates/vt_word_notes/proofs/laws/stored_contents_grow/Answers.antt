use Rattle.vt_word_notes.proofs.Growing.{stored_grow}
use Rattle.vt_word_notes.proofs.laws.stored_contents_grow.Goals as goal

pub returns : goal.returns
returns c = stored_grow
