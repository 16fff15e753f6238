use Rattle.vt_streaming.proofs.NearestNotes.{row_by_notes, row_by_said}
use Rattle.vt_word_notes.specs.Noted.{IsNotedBy}
use Rattle.vt_word_notes.proofs.laws.nearest_rows_are_drawn.Goals as goal

pub returns-clause-drawn : goal.returns-clause-drawn
returns-clause-drawn c = λ w s d version n row bytes. row_by_said s d version (IsNotedBy w) row n bytes

pub returns-clause-shown : goal.returns-clause-shown
returns-clause-shown c = λ w s d version n row bytes. row_by_notes s d version (IsNotedBy w) row n bytes
