use Rattle.std.proofs.Common.{rules, length, arith, ap}
use Rattle.vt_journal.specs.declared.changes.RowLine.{RowLine}
use Rattle.vt_journal.proofs.Rows.{begun_first, begun_more, rows_count, row_refused_later, moved_rows, rows_none}
use Rattle.vt_journal.proofs.read.rows.read_into.Goals as goal

pub rows-init : goal.rows-init
rows-init c =
    let src = c.args.source.now in
    let none = c.requires.none in
    let rows = c.args.rows.now.elements in
    record {
      most = omega (arith, ap (λ rows. length {A = RowLine} rows) none);
      room = omega (arith, c.requires.room);
      begun = begun_first src.geometry.now src.height c.args.kept.now.changes c.args.pass.now rows c.unseen-seen.result none
          c.requires.small c.requires.in_pass c.unseen-seen.ensures;
      first = λ _. c.requires.no_event;
      advances = rows_none src.geometry.now src.height src.text.now c.args.kept.now.changes c.args.pass.now c.args.cursor.at c.args.cursor.number
          rows none c.requires.cursor;
    }

pub returns : goal.returns
returns c = record {
  count = omega (arith, c.rows.invariant.most, c.rows-test.false, c.len.ensures);
  no_event = c.rows.invariant.first;
  advances = c.rows.invariant.advances;
}

pub returns-in_err-place : goal.returns-in_err-place
returns-in_err-place c =
    let src = c.args.source.now in
    search (
      rules,
      row_refused_later src.geometry.now src.height src.text.now c.args.kept.now.changes c.args.pass.now c.args.cursor.at c.args.cursor.number
          c.rows.rows.elements c.rows.place.at c.rows.place.number c.in_err-place.field-0.0
          c.rows.invariant.advances c.in_err-place.ensures,
    )

pub rows-preserved : goal.rows-preserved
rows-preserved c =
    let src = c.args.source.now in
    let read = c.in_ok-place.ensures in
    let count = rows_count c.rows.rows.elements c.read_row.new.rows.elements read.row read.added in
    record {
      most = omega (arith, count, c.rows-test.true, c.len.ensures);
      room = omega (arith, count, c.rows.invariant.room, read.spare);
      begun = begun_more src.geometry.now src.height c.args.kept.now.changes c.args.pass.now c.rows.rows.elements c.read_row.new.rows.elements
          c.rows.seen c.read_row.new.seen c.rows.invariant.begun read.seen_are;
      first = λ none. absurd (omega (arith, count, ap (λ rows. length {A = RowLine} rows) none));
      advances = moved_rows src.geometry.now src.height src.text.now c.args.kept.now.changes c.args.pass.now c.args.cursor.at c.args.cursor.number
          c.rows.rows.elements c.read_row.new.rows.elements read.row c.rows.place.at c.rows.place.number c.in_ok-place.place.at c.in_ok-place.place.number
          read.added c.rows.invariant.advances read.advances;
    }
