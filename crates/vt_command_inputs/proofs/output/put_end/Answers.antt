use Rattle.std.proofs.Common.{◌≡◌, ℕ, List, [], ◌++◌, ap, ◌∙◌}
use Rattle.std.specs.Prelude.{codes}
use Rattle.vt_command_words.specs.TextNumbers.{number_spelling}
use Rattle.vt_outside.specs.Effects.{sink_effect}
use Rattle.vt_command_inputs.specs.Lines.{end_line}
use Rattle.vt_command_inputs.proofs.Putting.{three_pieces, pieces_put}
use Rattle.vt_command_inputs.proofs.output.put_end.Goals as goal

pub returns : goal.returns
returns g c =
    let e : c.as_slice.result.now ++ (c.bytes.result.now ++ (c.as_slice-2.result.now ++ [])) ≡ end_line c.args.pictures =
    three_pieces c.as_slice.result.now c.bytes.result.now c.as_slice-2.result.now (codes "end pictures ") (number_spelling c.args.pictures) (codes "\n")
    c.as_slice.ensures (c.bytes.ensures ∙ c.number.ensures.gained
    ∙ ap (λ (t : List ℕ). t ++ number_spelling c.args.pictures) c.new-number.ensures) c.as_slice-2.ensures in
    let p = c.put_pieces.ensures in
    pieces_put (c.as_slice.result.now ++ (c.bytes.result.now ++ (c.as_slice-2.result.now ++ []))) (end_line c.args.pictures)
    (sink_effect g.O.Sink c.args.out.now c.put_pieces.new.sink) c.put_pieces.result e p.whole p.part p.failed
