use Rattle.std.proofs.Common.{◌≡◌, ◌-◌, ◌≤◌, length}
use Rattle.vt_journal.specs.JournalReading.{ArePassesRead, IsNoEventAt}
use Rattle.vt_journal.proofs.read.read_passes.Given as goal

abbrev pub invariant-passes : goal.invariant-passes
invariant-passes l = record {
  pages : l.kept.pages ≡ l.initial.kept.pages;
  few : length l.passes.items ≤ 4294967293;
  read : ArePassesRead l.source.geometry.now l.source.height l.source.text.now l.initial.kept.changes l.kept.changes l.passes.items l.picture
      l.fn.cursor.at l.fn.cursor.number l.place.at l.place.number;
  quiet : l.source.height ≡ 0 → 1 ≤ length l.passes.items → IsNoEventAt l.source.geometry.now l.source.text.now l.place.at;
}

abbrev pub decreases-passes : goal.decreases-passes
decreases-passes l = length l.source.text.now - l.place.at
