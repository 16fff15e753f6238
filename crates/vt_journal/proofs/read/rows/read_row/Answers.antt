use Rattle.std.proofs.Common.{ℕ, subst}
use Rattle.vt_journal.specs.declared.lines.Line.{Line}
use Rattle.vt_journal.specs.declared.lines.Line.TheVariants.{Draws}
use Rattle.vt_journal.specs.JournalReading.{IsLineRead, IsRowInTurn, with_rows}
use Rattle.vt_journal.proofs.Stepping.{refusal_by, advance_line}
use Rattle.vt_journal.proofs.Rows.{no_row, other_line, row_not_read, row_admitted}
use Rattle.vt_journal.proofs.read.rows.read_row.Goals as goal

pub returns-in_default : goal.returns-in_default
returns-in_default c =
    let src = c.args.source.now in
    let rows = c.args.rows.now.elements in
    refusal_by src.geometry.now src.height src.text.now (with_rows c.args.kept.now.changes c.args.pass.now rows) c.args.cursor.at c.args.cursor.number
    c.bad.result c.bad.ensures
    (no_row src.geometry.now src.height src.text.now c.args.kept.now.changes c.args.pass.now rows c.args.seen.now c.args.cursor.at
    c.args.cursor.number c.requires.begun c.requires.below c.in_default.ensures)

pub returns-in_default-line : goal.returns-in_default-line
returns-in_default-line c =
    let src = c.args.source.now in
    let rows = c.args.rows.now.elements in
    refusal_by src.geometry.now src.height src.text.now (with_rows c.args.kept.now.changes c.args.pass.now rows) c.args.cursor.at c.args.cursor.number
    c.bad-in_default-line.result c.bad-in_default-line.ensures
    (other_line src.geometry.now src.height src.text.now c.args.kept.now.changes c.args.pass.now rows c.args.seen.now c.in-Some.read.line
    c.args.cursor.at c.args.cursor.number c.in-Some.read.next.at c.in-Some.read.next.number
    c.requires.begun c.requires.below c.in-Some.ensures c.in_default-line.not-Draws c.requires.no_event)

pub returns-then-not-is_row_in_turn : goal.returns-then-not-is_row_in_turn
returns-then-not-is_row_in_turn c =
    let src = c.args.source.now in
    let rows = c.args.rows.now.elements in
    let read = subst (λ (l : Line). IsLineRead src.geometry.now src.text.now c.args.cursor.at c.args.cursor.number l c.in-Some.read.next.at
    c.in-Some.read.next.number) c.in-Draws.is c.in-Some.ensures in
    let out_of_turn = subst (λ (n : ℕ). ¬ IsRowInTurn n c.args.seen.now c.version.result c.in-Draws.row) c.len.ensures c.if-not-is_row_in_turn.ensures in
    refusal_by src.geometry.now src.height src.text.now (with_rows c.args.kept.now.changes c.args.pass.now rows) c.args.cursor.at c.args.cursor.number
    c.bad-then-not-is_row_in_turn.result c.bad-then-not-is_row_in_turn.ensures
    (row_not_read src.geometry.now src.height src.text.now c.args.kept.now.changes c.args.pass.now rows c.args.seen.now c.version.result
    c.in-Draws.row c.args.cursor.at c.args.cursor.number c.in-Some.read.next.at c.in-Some.read.next.number
    c.requires.begun c.version.ensures.version read out_of_turn)

pub returns : goal.returns
returns c =
    let src = c.args.source.now in
    let rows = c.args.rows.now.elements in
    let read = subst (λ (l : Line). IsLineRead src.geometry.now src.text.now c.args.cursor.at c.args.cursor.number l c.in-Some.read.next.at
    c.in-Some.read.next.number) c.in-Draws.is c.in-Some.ensures in
    let turn = subst (λ (n : ℕ). IsRowInTurn n c.args.seen.now c.version.result c.in-Draws.row) c.len.ensures c.if-not-is_row_in_turn.ensures in
    record {
      row = c.in-Draws.row;
      added = c.add_row.ensures.added;
      spare = c.add_row.ensures.spare;
      seen_are = c.add_row.ensures.seen;
      advances = advance_line src.geometry.now src.height src.text.now (with_rows c.args.kept.now.changes c.args.pass.now rows) c.args.cursor.at
          c.args.cursor.number (Draws c.in-Draws.row) c.in-Some.read.next.at c.in-Some.read.next.number read
          (row_admitted src.geometry.now src.height c.args.kept.now.changes c.args.pass.now rows c.args.seen.now c.version.result c.in-Draws.row
          c.requires.begun c.requires.below c.version.ensures.version read.says.readable.sampler_inside turn);
    }
