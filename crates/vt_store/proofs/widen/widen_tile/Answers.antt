use Rattle.std.proofs.Common.{◌+◌, ◌*◌, ◌≤◌, ◌∙◌, refl, arith}
use Rattle.vt_store.proofs.Lines.{line_room}
use Rattle.vt_store.proofs.Widening.{next_wide_line, cut_length}
use Rattle.vt_store.proofs.widen.widen_tile.Goals as goal

pub loop-line-preserved : goal.loop-line-preserved
loop-line-preserved c =
    let room = line_room c.args.side c.loop-line.line c.loop-line-test.true in
    let from : c.min.result * c.args.side + c.args.side ≤ c.args.side * c.args.side =
    line_room c.args.side c.min.result (omega (arith, c.min.ensures)) in
    next_wide_line c.args.tile.now _ c.loop-line.out c.widen_line.new.out c.args.side c.args.columns c.args.rows c.loop-line.line
    c.min.result _ _ _ c.loop-line-test.true refl (omega arith) (omega (arith, room)) (omega (arith, room)) c.requires.columns.0
    c.min.ensures (omega arith) refl
    (c.widen_line.ensures c.args.columns (cut_length c.args.tile.now _ _ (omega (arith, from)) ∙ omega arith)) c.loop-line.invariant
