use Rattle.std.proofs.Common.{[], arith}
use Rattle.std.specs.Prelude.{slice_index_or}
use Rattle.vt_sampler.specs.Shots.{shot_row}
use Rattle.vt_streaming.proofs.NearestNotes.{row_by_said}
use Rattle.vt_word_notes.specs.Noted.{IsAmong}
use Rattle.vt_word_notes.proofs.Handed.{no_word}
use Rattle.vt_word_notes.proofs.laws.rows_need_new_notes.Goals as goal

pub returns : goal.returns
returns c = λ s d v w path i y lines line rows noted there wide same.
    let row = shot_row s path i y in
    let drawn = row_by_said s d line.version (IsAmong noted.entries noted.words) row path.width (slice_index_or rows y []) (noted.each y line there) in
    no_word v w noted.entries noted.words noted.worded same _ _ _ _ (drawn 0 (omega (arith, wide))).read
