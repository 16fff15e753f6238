use Rattle.std.proofs.Common.{◌≡◌}
use Rattle.vt_journal.specs.JournalReading.{IsHeadBegun}
use Rattle.vt_journal.proofs.read.head.read_head.Given as goal

abbrev pub invariant-loop-i : goal.invariant-loop-i
invariant-loop-i l = record {
  pages : l.kept.pages ≡ l.initial.kept.pages;
  begun : IsHeadBegun l.source.geometry.now l.source.height l.source.text.now l.kept.changes l.first.pinned l.i l.place.at l.place.number;
}
