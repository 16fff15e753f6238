use Rattle.std.proofs.Common.{subst}
use Rattle.vt_journal.specs.declared.lines.Line.{Line}
use Rattle.vt_journal.specs.JournalReading.{IsLineRead}
use Rattle.vt_journal.proofs.Stepping.{refusal_by}
use Rattle.vt_journal.proofs.Passing.{no_begin, other_than_begin, other_begin, begin_read}
use Rattle.vt_journal.proofs.read.pass.read_begin.Goals as goal

pub returns-in_default-clause-read : goal.returns-in_default-clause-read
returns-in_default-clause-read c = λ r between.
    let src = c.args.source.now in
    refusal_by src.geometry.now src.height src.text.now r c.args.cursor.at c.args.cursor.number c.bad.result c.bad.ensures
    (no_begin src.geometry.now src.height src.text.now c.args.kept.now.changes c.args.passes c.args.before c.args.cursor.at c.args.cursor.number r
    between c.requires.more c.in_default.ensures)

pub returns-in_default-line-clause-read : goal.returns-in_default-line-clause-read
returns-in_default-line-clause-read c = λ r between.
    let src = c.args.source.now in
    refusal_by src.geometry.now src.height src.text.now r c.args.cursor.at c.args.cursor.number c.bad-in_default-line.result c.bad-in_default-line.ensures
    (other_than_begin src.geometry.now src.height src.text.now c.args.kept.now.changes c.args.passes c.args.before c.args.cursor.at
    c.args.cursor.number r between
    c.in-Some.read.line c.in-Some.read.next.at c.in-Some.read.next.number c.in-Some.ensures c.in_default-line.not-Begins c.requires.no_event)

pub returns-then-not-is_next_pass-clause-read : goal.returns-then-not-is_next_pass-clause-read
returns-then-not-is_next_pass-clause-read c = λ r between.
    let src = c.args.source.now in
    let read = subst (λ (l : Line). IsLineRead src.geometry.now src.text.now c.args.cursor.at c.args.cursor.number l c.in-Some.read.next.at
    c.in-Some.read.next.number) c.in-Begins.is c.in-Some.ensures in
    refusal_by src.geometry.now src.height src.text.now r c.args.cursor.at c.args.cursor.number c.bad-then-not-is_next_pass.result
    c.bad-then-not-is_next_pass.ensures
    (other_begin src.geometry.now src.height src.text.now c.args.kept.now.changes c.args.passes c.args.before c.args.cursor.at c.args.cursor.number r between
    c.version.result c.in-Begins.pass c.in-Begins.picture c.in-Begins.start c.in-Some.read.next.at c.in-Some.read.next.number
    c.version.ensures.version read c.if-not-is_next_pass.ensures)

pub returns-clause-read : goal.returns-clause-read
returns-clause-read c = λ r between.
    let src = c.args.source.now in
    let read = subst (λ (l : Line). IsLineRead src.geometry.now src.text.now c.args.cursor.at c.args.cursor.number l c.in-Some.read.next.at
    c.in-Some.read.next.number) c.in-Begins.is c.in-Some.ensures in
    begin_read src.geometry.now src.height src.text.now c.args.kept.now.changes c.args.passes c.args.before c.args.cursor.at c.args.cursor.number r between
    c.version.result c.in-Begins.pass c.in-Begins.picture c.in-Begins.start c.in-Some.read.next.at c.in-Some.read.next.number
    c.version.ensures.version read c.if-not-is_next_pass.ensures
