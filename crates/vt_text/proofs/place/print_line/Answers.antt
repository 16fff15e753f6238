use Rattle.std.proofs.Common.{[], ◌∷◌, ◌∙◌}
use Rattle.vt_text.specs.Places.{number_text}
use Rattle.vt_text.proofs.JoinedPieces.{place_pieces}
use Rattle.vt_text.proofs.place.print_line.Goals as goal

pub returns : goal.returns
returns g c =
    let a = c.args in
    let p = c.args.place.now in
    let first = c.bytes.ensures ∙ c.number_line-number.ensures in
    let second = c.bytes-2.ensures ∙ c.number_line-second.ensures in
    let last = c.bytes-3.ensures ∙ c.number_line-last.ensures in
    let e = place_pieces a.front.now a.name.now a.colon.now p.words.now p.between.now p.after.now
    c.bytes.result.now c.bytes-2.result.now c.bytes-3.result.now
    (number_text p.number) (number_text p.second_number) (number_text p.last_number) c.as_slice.result.now (10 ∷ [])
    first second last c.as_slice.ensures in
    rw (← e) c.print_pieces.ensures
