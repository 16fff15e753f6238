use Rattle.std.proofs.Common.{ℕ, List, take, ap, ◌∙◌, get_or, [], arith}
use Rattle.std.specs.Option.{option_map}
use Rattle.std.specs.Borrow.{Bor}
use Rattle.std.proofs.lemmas.Result.{err_from_is_err_and}
use Rattle.vt_outside.specs.Files.{gained}
use Rattle.vt_text.specs.Pieces.{joined_pieces}
use Rattle.vt_text.proofs.JoinedPieces.{gained_more, part_of_joined}
use Rattle.vt_outside.specs.declared.answers.OutsideError.TheVariants.{Failed, NoMemory}
use Rattle.vt_text.proofs.Refused.{none_whole, rose_since}
use Rattle.vt_text.proofs.pieces.put_pieces.Goals as goal

pub returns-in_err-put_piece-clause-part : goal.returns-in_err-put_piece-clause-part
returns-in_err-put_piece-clause-part g c =
    let p = err_from_is_err_and c.from_residual.result c.from_residual.ensures.1 in
    let pieces = c.args.pieces.now in
    let i = c.loop-piece.piece-index in
    let none : Bor (List ℕ) = record { ref_ptr = (0, 0); now = [] } in
    let part = c.in_err-put_piece.ensures.part in
    let j = part_of_joined pieces i none part.0 c.loop-piece-test.true in
    let held = g.S.Sink.held c.args.sink.now in
    rw p.1 (
      j.0,
      part.1
          ∙ ap (option_map (gained (take part.0 (get_or pieces i none).now))) c.loop-piece.invariant.put
          ∙ gained_more (joined_pieces (take i pieces)) (take part.0 (get_or pieces i none).now) held
          ∙ ap (λ (t : List ℕ). option_map (gained t) held) j.1,
    )

pub returns-in_err-put_piece-clause-whole : goal.returns-in_err-put_piece-clause-whole
returns-in_err-put_piece-clause-whole g c = none_whole c.from_residual.result _ _ c.from_residual.ensures.1

pub returns-in_err-put_piece-clause-failed : goal.returns-in_err-put_piece-clause-failed
returns-in_err-put_piece-clause-failed g c =
    rose_since c.from_residual.result c.in_err-put_piece.field-0.0 Failed (g.S.Sink.faults c.args.sink.now) (g.S.Sink.faults c.loop-piece.sink)
    (g.S.Sink.faults c.put_piece.new.sink) c.from_residual.ensures.1 c.in_err-put_piece.ensures.failed c.loop-piece.invariant.faults

pub returns-in_err-put_piece-clause-no_memory : goal.returns-in_err-put_piece-clause-no_memory
returns-in_err-put_piece-clause-no_memory g c =
    rose_since c.from_residual.result c.in_err-put_piece.field-0.0 NoMemory (g.S.Sink.refusals c.args.sink.now) (g.S.Sink.refusals c.loop-piece.sink)
    (g.S.Sink.refusals c.put_piece.new.sink) c.from_residual.ensures.1 c.in_err-put_piece.ensures.no_memory c.loop-piece.invariant.refusals

pub returns-in_err-put_piece-clause-faults : goal.returns-in_err-put_piece-clause-faults
returns-in_err-put_piece-clause-faults g c = omega (arith, c.loop-piece.invariant.faults, c.in_err-put_piece.ensures.faults)

pub returns-in_err-put_piece-clause-refusals : goal.returns-in_err-put_piece-clause-refusals
returns-in_err-put_piece-clause-refusals g c = omega (arith, c.loop-piece.invariant.refusals, c.in_err-put_piece.ensures.refusals)
