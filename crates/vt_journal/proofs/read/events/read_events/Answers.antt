use Rattle.std.proofs.Common.{rules, ◌∙◌}
use Rattle.vt_journal.proofs.Events.{events_more, refused_after, in_pass_still}
use Rattle.vt_journal.proofs.read.events.read_events.Goals as goal

pub events-preserved : goal.events-preserved
events-preserved c =
    let src = c.args.source.now in
    let found = rw c.in-Some.is at c.in_ok-found.ensures in
    let so_far = c.events.invariant.read in
    record {
      in_pass = in_pass_still src.geometry.now src.height src.text.now c.events.kept.changes c.read_event.new.kept.changes c.events.kept.pages
          c.read_event.new.kept.pages c.args.pinned c.events.pass c.read_event.new.pass
          c.events.place.at c.events.place.number c.in-Some.next.at c.in-Some.next.number found.3 found.1 found.2 c.events.invariant.in_pass;
      pages = found.1 ∙ c.events.invariant.pages;
      read = events_more src.geometry.now src.height src.text.now c.args.kept.now.changes c.events.kept.changes c.read_event.new.kept.changes
          c.args.pass.now c.events.pass c.read_event.new.pass
          c.args.cursor.at c.args.cursor.number c.events.place.at c.events.place.number c.in-Some.next.at c.in-Some.next.number so_far found.3;
    }

pub returns-in_err-found : goal.returns-in_err-found
returns-in_err-found c =
    let src = c.args.source.now in
    search (
      rules,
      refused_after src.geometry.now src.height src.text.now c.args.kept.now.changes c.events.kept.changes c.args.pass.now c.events.pass
          c.args.cursor.at c.args.cursor.number c.events.place.at c.events.place.number c.in_err-found.field-0.0
          c.events.invariant.read c.in_err-found.ensures,
    )
