use Rattle.vt_sampler.proofs.Handed.{shown_by_more}
use Rattle.vt_word_notes.specs.Noted.{IsAmong, IsNotedBy}
use Rattle.vt_word_notes.proofs.Handed.{noted_by}
use Rattle.vt_word_notes.proofs.laws.drawn_rows_stay_drawn.Goals as goal

pub returns : goal.returns
returns g c = λ w entries words s d version n row bytes has.
    shown_by_more g.P.Filter.shown s d version n (IsAmong entries words) (IsNotedBy w) row bytes (noted_by w entries words has)
