use Rattle.std.proofs.Common.{sym, subst, refl}
use Rattle.vt_journal.specs.declared.lines.Line.{Line}
use Rattle.vt_journal.specs.JournalReading.{IsLineRead, IsNoEvent, reading_of}
use Rattle.vt_journal.proofs.Stepping.{refusal_by}
use Rattle.vt_journal.proofs.Events.{change_read, change_not_read, loss_read, loss_not_read}
use Rattle.vt_journal.proofs.Rows.{no_event_unread, no_event_read}
use Rattle.vt_journal.proofs.read.events.read_event.Goals as goal

pub returns-then-not-branch : goal.returns-then-not-branch
returns-then-not-branch c =
    let src = c.args.source.now in
    let read = subst (λ (l : Line). IsLineRead src.geometry.now src.text.now c.args.cursor.at c.args.cursor.number l c.in-Some.read.next.at
    c.in-Some.read.next.number) c.in-Makes.is c.in-Some.ensures in
    let no = rw c.if-not-branch.true at c.in_ok-add_change-in-Makes.ensures in
    refusal_by src.geometry.now src.height src.text.now (reading_of c.args.kept.now.changes c.args.pass.now) c.args.cursor.at c.args.cursor.number
    c.bad.result c.bad.ensures
    (change_not_read src.geometry.now src.height src.text.now c.args.kept.now.changes c.args.kept.now.pages c.args.pinned c.args.pass.now
    c.args.cursor.at c.args.cursor.number c.in-Makes.version c.in-Makes.change _ _ c.requires.in_pass read no)

pub returns-then-not-branch-2 : goal.returns-then-not-branch-2
returns-then-not-branch-2 c =
    let src = c.args.source.now in
    let read = subst (λ (l : Line). IsLineRead src.geometry.now src.text.now c.args.cursor.at c.args.cursor.number l c.in-Some.read.next.at
    c.in-Some.read.next.number) c.in-Loses.is c.in-Some.ensures in
    let no = rw c.if-not-branch-2.true at c.in_ok-add_loss-in-Loses.ensures in
    refusal_by src.geometry.now src.height src.text.now (reading_of c.args.kept.now.changes c.args.pass.now) c.args.cursor.at c.args.cursor.number
    c.bad-then-not-branch-2.result c.bad-then-not-branch-2.ensures
    (loss_not_read src.geometry.now src.height src.text.now c.args.kept.now.changes c.args.kept.now.pages c.args.pinned c.args.pass.now
    c.args.cursor.at c.args.cursor.number c.in-Loses.page _ _ c.requires.in_pass read no)

pub returns-else-not-branch : goal.returns-else-not-branch
returns-else-not-branch c =
    let src = c.args.source.now in
    let read = subst (λ (l : Line). IsLineRead src.geometry.now src.text.now c.args.cursor.at c.args.cursor.number l c.in-Some.read.next.at
    c.in-Some.read.next.number) c.in-Makes.is c.in-Some.ensures in
    let yes = rw c.if-not-branch.false at c.in_ok-add_change-in-Makes.ensures in (
      read.forward,
      yes.2.pages_are,
      yes.0,
      change_read src.geometry.now src.height src.text.now c.args.kept.now c.add_change.new.kept c.args.kept.now.pages c.args.pinned c.args.pass.now
          c.add_change.new.pass
          c.args.cursor.at c.args.cursor.number c.in-Makes.version c.in-Makes.change _ _ c.requires.in_pass read yes.1 yes.2,
    )

pub returns-else-not-branch-2 : goal.returns-else-not-branch-2
returns-else-not-branch-2 c =
    let src = c.args.source.now in
    let read = subst (λ (l : Line). IsLineRead src.geometry.now src.text.now c.args.cursor.at c.args.cursor.number l c.in-Some.read.next.at
    c.in-Some.read.next.number) c.in-Loses.is c.in-Some.ensures in
    let yes = rw c.if-not-branch-2.false at c.in_ok-add_loss-in-Loses.ensures in (
      read.forward,
      yes.1.pages_are,
      c.requires.in_pass.small.changes,
      loss_read src.geometry.now src.height src.text.now c.args.kept.now c.args.kept.now c.args.kept.now.pages c.args.pinned c.args.pass.now c.add_loss.new.pass
          c.args.cursor.at c.args.cursor.number c.in-Loses.page _ _ c.requires.in_pass read yes.0 yes.1,
    )

pub returns-in_default : goal.returns-in_default
returns-in_default c = (no_event_unread c.args.source.now.geometry.now c.args.source.now.text.now c.args.cursor.at c.in_default.ensures, refl, refl)

pub returns-in-Begins : goal.returns-in-Begins
returns-in-Begins c =
    let src = c.args.source.now in
    let quiet = subst IsNoEvent (sym c.in-Begins.is) tt in (
      no_event_read src.geometry.now src.text.now c.args.cursor.at c.args.cursor.number c.in-Some.read.line c.in-Some.read.next.at
          c.in-Some.read.next.number c.requires.in_pass.small.tile c.in-Some.ensures quiet,
      refl,
      refl,
    )

pub returns-in-Draws : goal.returns-in-Draws
returns-in-Draws c =
    let src = c.args.source.now in
    let quiet = subst IsNoEvent (sym c.in-Draws.is) tt in (
      no_event_read src.geometry.now src.text.now c.args.cursor.at c.args.cursor.number c.in-Some.read.line c.in-Some.read.next.at
          c.in-Some.read.next.number c.requires.in_pass.small.tile c.in-Some.ensures quiet,
      refl,
      refl,
    )
