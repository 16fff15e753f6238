use Rattle.vt_ppm.proofs.Refusing.{fault_handed_on}
use Rattle.std.proofs.Common.{◌*◌, ◌+◌, ◌≤◌, ◌∙◌, min, Err, refl, sym, ap, subst, arith}
use Rattle.std.proofs.lemmas.Result.{err_from_is_err_and}
use Rattle.vt_outside.proofs.Refusing.{none_made, handed_on, rose_later}
use Rattle.vt_ppm.specs.Flaws.{IsHeaderFlaw}
use Rattle.vt_ppm.specs.Strips.{AreRowsUpTo, piece_rows}
use Rattle.vt_ppm.proofs.CheckedPieces.{piece_is, all_done, more_asked, last_asked, check_gains, front_gains, some_rows, found_next, none_done, none_asked, piece_room, piece_cut, samples_known}
use Rattle.vt_ppm.proofs.strips.look_over_pieces.Goals as goal

pub returns-in_err-look_over_rows-clause-flaw : goal.returns-in_err-look_over_rows-clause-flaw
returns-in_err-look_over_rows-clause-flaw g c =
    let p = err_from_is_err_and c.from_residual.result c.from_residual.ensures.1 in
    let h = c.args.header.now in
    let piece = piece_is h c.piece_rows-step.result c.pieces_of-piece-end.result c.loop-piece.piece _ c.min-count.result
    c.piece_rows-step.ensures.value c.piece_rows-step.ensures.some c.pieces_of-piece-end.ensures.value c.loop-piece-test.true refl c.min-count.ensures in
    rw (p.1, p.2) (λ sample. found_next (λ b. AreRowsUpTo h b _) (λ b. IsHeaderFlaw b c.in_err-look_over_rows.field-0.0)
    (g.F.File.bytes c.args.file.now) (g.F.File.bytes c.loop-piece.file) c.loop-piece.invariant.bytes
    (rw (← piece.here) c.loop-piece.invariant.few) (c.in_err-look_over_rows.ensures.flaw sample))

pub returns-in_err-look_over_rows-clause-asked : goal.returns-in_err-look_over_rows-clause-asked
returns-in_err-look_over_rows-clause-asked g c =
    let p = err_from_is_err_and c.from_residual.result c.from_residual.ensures.1 in
    let h = c.args.header.now in
    let piece = piece_is h c.piece_rows-step.result c.pieces_of-piece-end.result c.loop-piece.piece _ c.min-count.result
    c.piece_rows-step.ensures.value c.piece_rows-step.ensures.some c.pieces_of-piece-end.ensures.value c.loop-piece-test.true refl c.min-count.ensures in
    rw (p.1, p.2) (last_asked h c.loop-piece.piece _ c.min-count.result (g.F.File.asked c.args.file.now) (g.F.File.asked c.loop-piece.file)
    (g.F.File.asked c.look_over_rows.new.file) c.loop-piece.invariant.asked piece c.in_err-look_over_rows.field-0.0
    c.in_err-look_over_rows.ensures.asked)

pub loop-piece-preserved : goal.loop-piece-preserved
loop-piece-preserved g c =
    let h = c.args.header.now in
    let piece = piece_is h c.piece_rows-step.result c.pieces_of-piece-end.result c.loop-piece.piece _ c.min-count.result
    c.piece_rows-step.ensures.value c.piece_rows-step.ensures.some c.pieces_of-piece-end.ensures.value c.loop-piece-test.true refl c.min-count.ensures in
    record {
      few = rw piece.next (found_next (λ b. AreRowsUpTo h b (c.loop-piece.piece * c.piece_rows-step.result))
          (λ b. AreRowsUpTo h b (c.loop-piece.piece * c.piece_rows-step.result + c.min-count.result))
          (g.F.File.bytes c.args.file.now) (g.F.File.bytes c.loop-piece.file) c.loop-piece.invariant.bytes
          (rw (← piece.here) c.loop-piece.invariant.few) c.in_ok-look_over_rows.ensures.few);
      asked = more_asked h c.loop-piece.piece _ c.min-count.result (g.F.File.asked c.args.file.now) (g.F.File.asked c.loop-piece.file)
          (g.F.File.asked c.look_over_rows.new.file) c.loop-piece.invariant.asked piece c.in_ok-look_over_rows.ensures.asked;
      spare = omega (arith, c.look_over_rows.ensures.spare, c.loop-piece.invariant.spare);
      bytes = c.look_over_rows.ensures.bytes ∙ c.loop-piece.invariant.bytes;
      called = c.look_over_rows.ensures.name ∙ c.loop-piece.invariant.called;
      faults = omega (arith, c.look_over_rows.ensures.faults, c.loop-piece.invariant.faults);
    }

pub returns-clause-few : goal.returns-clause-few
returns-clause-few g c =
    let h = c.args.header.now in
    samples_known (g.F.File.bytes c.args.file.now) h (min (c.loop-piece.piece * piece_rows h) h.height)
    (all_done h c.piece_rows-step.result c.pieces_of-piece-end.result c.loop-piece.piece c.piece_rows-step.ensures.value c.piece_rows-step.ensures.some
    c.pieces_of-piece-end.ensures.value (omega (arith, c.loop-piece-test.false, c.loop-piece.auto.piece-end))) c.loop-piece.invariant.few

pub returns-in_err-look_over_rows-clause-rows : goal.returns-in_err-look_over_rows-clause-rows
returns-in_err-look_over_rows-clause-rows g c =
    let h = c.args.header.now in
    let piece = piece_is h c.piece_rows-step.result c.pieces_of-piece-end.result c.loop-piece.piece _ c.min-count.result
    c.piece_rows-step.ensures.value c.piece_rows-step.ensures.some c.pieces_of-piece-end.ensures.value c.loop-piece-test.true refl c.min-count.ensures in
    check_gains h {T = Unit {0}} (Err c.in_err-look_over_rows.field-0.0) (g.F.File.asked c.args.file.now) (g.F.File.asked c.look_over_rows.new.file)
    (some_rows h c.requires.header)
    (last_asked h c.loop-piece.piece _ c.min-count.result (g.F.File.asked c.args.file.now) (g.F.File.asked c.loop-piece.file)
    (g.F.File.asked c.look_over_rows.new.file) c.loop-piece.invariant.asked piece c.in_err-look_over_rows.field-0.0
    c.in_err-look_over_rows.ensures.asked)

pub returns-clause-rows : goal.returns-clause-rows
returns-clause-rows g c =
    let h = c.args.header.now in
    front_gains h c.loop-piece.piece (g.F.File.asked c.args.file.now) (g.F.File.asked c.loop-piece.file)
    (omega (arith, c.loop-piece-test.false, c.loop-piece.auto.piece-end, c.pieces_of-piece-end.ensures.value)) (some_rows h c.requires.header)
    c.loop-piece.invariant.asked

pub loop-piece-init : goal.loop-piece-init
loop-piece-init g c = record {
  few = none_done (g.F.File.bytes c.args.file.now) c.args.header.now;
  asked = none_asked c.args.header.now (g.F.File.asked c.args.file.now);
  spare = omega arith;
  bytes = refl;
  called = refl;
  faults = omega arith;
}

pub overflow_sub-header : goal.overflow_sub-header
overflow_sub-header g c =
    let h = c.args.header.now in
    let piece = piece_is h c.piece_rows-step.result c.pieces_of-piece-end.result c.loop-piece.piece _ _
    c.piece_rows-step.ensures.value c.piece_rows-step.ensures.some c.pieces_of-piece-end.ensures.value c.loop-piece-test.true refl refl in
    omega (arith, piece.inside)

pub slice_bounds-look_over_rows-end : goal.slice_bounds-look_over_rows-end
slice_bounds-look_over_rows-end g c =
    let few = piece_room c.args.header.now c.piece_rows-step.result c.row_length-row.result c.min-count.result _ _ c.piece_rows-step.ensures.value
    c.row_length-row.ensures.value c.min-count.ensures c.requires.size in
    subst (λ n. c.min-count.result * c.row_length-row.result ≤ n) (sym c.loop-piece.auto.buffer) few

pub slice_bounds-look_over_rows-end-in-loop-piece : goal.slice_bounds-look_over_rows-end-in-loop-piece
slice_bounds-look_over_rows-end-in-loop-piece g c =
    sym (piece_cut c.args.header.now c.piece_rows-step.result c.row_length-row.result c.min-count.result _ c.loop-piece.buffer _ c.loop-piece.auto.buffer
    c.piece_rows-step.ensures.value c.row_length-row.ensures.value c.min-count.ensures c.requires.size)

pub look_over_rows-requires-clause-inside : goal.look_over_rows-requires-clause-inside
look_over_rows-requires-clause-inside g c =
    let h = c.args.header.now in
    let piece = piece_is h c.piece_rows-step.result c.pieces_of-piece-end.result c.loop-piece.piece _ c.min-count.result
    c.piece_rows-step.ensures.value c.piece_rows-step.ensures.some c.pieces_of-piece-end.ensures.value c.loop-piece-test.true refl c.min-count.ensures in
    piece.inside

pub look_over_rows-requires-clause-size : goal.look_over_rows-requires-clause-size
look_over_rows-requires-clause-size g c =
    piece_cut c.args.header.now c.piece_rows-step.result c.row_length-row.result c.min-count.result _ c.loop-piece.buffer _ c.loop-piece.auto.buffer
    c.piece_rows-step.ensures.value c.row_length-row.ensures.value c.min-count.ensures c.requires.size
    ∙ ap (λ n. c.min-count.result * n) c.row_length-row.ensures.value

pub returns-in_err-look_over_rows-clause-few : goal.returns-in_err-look_over_rows-clause-few
returns-in_err-look_over_rows-clause-few g c = none_made c.from_residual.result _ _ c.from_residual.ensures.1

pub returns-in_err-look_over_rows-clause-refusals : goal.returns-in_err-look_over_rows-clause-refusals
returns-in_err-look_over_rows-clause-refusals g c = handed_on c.from_residual.result _ _ c.from_residual.ensures.1 c.in_err-look_over_rows.ensures.refusals

pub returns-in_err-look_over_rows-clause-failed : goal.returns-in_err-look_over_rows-clause-failed
returns-in_err-look_over_rows-clause-failed g c =
    fault_handed_on {T = Unit {0}} c.from_residual.result _ _ c.from_residual.ensures.1
    (λ failed. rose_later _ _ _ c.loop-piece.invariant.faults (c.in_err-look_over_rows.ensures.failed failed))

pub returns-in_err-look_over_rows-clause-spare : goal.returns-in_err-look_over_rows-clause-spare
returns-in_err-look_over_rows-clause-spare g c =
    omega (arith, c.look_over_rows.ensures.spare, c.loop-piece.invariant.spare, c.loop-piece-test.true, c.pieces_of-piece-end.ensures.few)

pub returns-in_err-look_over_rows-clause-bytes : goal.returns-in_err-look_over_rows-clause-bytes
returns-in_err-look_over_rows-clause-bytes g c = c.look_over_rows.ensures.bytes ∙ c.loop-piece.invariant.bytes

pub returns-in_err-look_over_rows-clause-name : goal.returns-in_err-look_over_rows-clause-name
returns-in_err-look_over_rows-clause-name g c = c.look_over_rows.ensures.name ∙ c.loop-piece.invariant.called

pub returns-in_err-look_over_rows-clause-faults : goal.returns-in_err-look_over_rows-clause-faults
returns-in_err-look_over_rows-clause-faults g c = omega (arith, c.look_over_rows.ensures.faults, c.loop-piece.invariant.faults)

pub returns-clause-flaw : goal.returns-clause-flaw
returns-clause-flaw g c = tt

pub returns-clause-refusals : goal.returns-clause-refusals
returns-clause-refusals g c = tt

pub returns-clause-failed : goal.returns-clause-failed
returns-clause-failed g c = λ failed. let no : ⊥ = cc in absurd no

pub returns-clause-bytes : goal.returns-clause-bytes
returns-clause-bytes g c = c.loop-piece.invariant.bytes

pub returns-clause-name : goal.returns-clause-name
returns-clause-name g c = c.loop-piece.invariant.called

pub returns-clause-faults : goal.returns-clause-faults
returns-clause-faults g c = c.loop-piece.invariant.faults
