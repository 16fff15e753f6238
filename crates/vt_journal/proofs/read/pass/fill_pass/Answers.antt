use Rattle.std.proofs.Common.{rules, refl}
use Rattle.vt_journal.proofs.Passing.{rows_refused}
use Rattle.vt_journal.proofs.read.pass.fill_pass.Goals as goal

pub returns-in_err-read : goal.returns-in_err-read
returns-in_err-read c =
    let src = c.args.source.now in
    search (
      rules,
      rows_refused src.geometry.now src.height src.text.now c.args.kept.now.changes c.read_events.new.kept.changes c.args.pass.now
          c.read_events.new.pass c.args.cursor.at c.args.cursor.number c.in_ok-next.next.at c.in_ok-next.next.number c.in_err-read.field-0.0
          c.requires.in_pass.no_rows c.in_ok-next.ensures.3 c.in_err-read.ensures,
    )

pub returns : goal.returns
returns c = (
  c.in_ok-next.ensures.2,
  record {
    middle = c.read_events.new.pass;
    rows_at = c.in_ok-next.next.at;
    rows_number = c.in_ok-next.next.number;
    few = c.in_ok-next.ensures.1.small.changes;
    events = c.in_ok-next.ensures.3;
    rows = c.in_ok-read.ensures;
    same = record { pass = refl; picture = refl; start = refl; events = refl };
  },
)
