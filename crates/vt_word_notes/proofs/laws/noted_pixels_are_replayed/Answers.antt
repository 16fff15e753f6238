use Rattle.vt_word_notes.proofs.Replayed.{pixel_replayed}
use Rattle.vt_word_notes.proofs.laws.noted_pixels_are_replayed.Goals as goal

pub returns : goal.returns
returns g c = λ w s d b scene version i x y bytes sound limits store are same deep.
    pixel_replayed g.P.Filter.shown g.P.Filter.under g.met.P.Filter.is_under w s d b sound limits store are scene same deep version i x y bytes
