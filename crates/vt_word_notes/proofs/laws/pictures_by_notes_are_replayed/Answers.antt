use Rattle.vt_word_notes.proofs.Replayed.{picture_replayed}
use Rattle.vt_word_notes.proofs.laws.pictures_by_notes_are_replayed.Goals as goal

pub returns : goal.returns
returns g c = picture_replayed g.P.Filter.shown g.P.Filter.under g.met.P.Filter.is_under
