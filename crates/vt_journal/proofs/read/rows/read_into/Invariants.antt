use Rattle.std.proofs.Common.{◌≡◌, ◌-◌, ◌+◌, ◌≤◌, [], length, map}
use Rattle.vt_journal.specs.declared.lines.Line.TheVariants.{Draws}
use Rattle.vt_journal.specs.JournalReading.{AreRowsBegun, Advances, with_rows, IsNoEventAt}
use Rattle.vt_journal.proofs.read.rows.read_into.Given as goal

abbrev pub invariant-rows : goal.invariant-rows
invariant-rows l = record {
  most : length l.rows.elements ≤ l.source.height;
  room : l.source.height ≤ length l.rows.elements + l.rows.spare;
  begun : AreRowsBegun l.source.geometry.now l.source.height l.kept.changes l.pass l.rows.elements l.seen;
  first : l.rows.elements ≡ [] → IsNoEventAt l.source.geometry.now l.source.text.now l.place.at;
  advances : Advances l.source.geometry.now l.source.height l.source.text.now (with_rows l.kept.changes l.pass []) l.fn.cursor.at l.fn.cursor.number
      (map Draws l.rows.elements) l.place.at l.place.number;
}

abbrev pub decreases-rows : goal.decreases-rows
decreases-rows l = l.source.height - length l.rows.elements
