use Rattle.vt_word_notes.proofs.Replayed.{notes_true}
use Rattle.vt_word_notes.proofs.laws.notes_are_true.Goals as goal

pub returns : goal.returns
returns c = λ w s d b version sound limits store are. notes_true w s d b sound limits store are version
