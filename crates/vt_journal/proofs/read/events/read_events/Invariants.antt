use Rattle.std.proofs.Common.{◌≡◌, ◌-◌, length}
use Rattle.vt_journal.specs.JournalReading.{IsInPass, AreEventsRead}
use Rattle.vt_journal.proofs.read.events.read_events.Given as goal

abbrev pub invariant-events : goal.invariant-events
invariant-events l = record {
  in_pass : IsInPass l.source.geometry.now l.source.height l.kept.changes l.kept.pages l.pinned l.pass;
  pages : l.kept.pages ≡ l.initial.kept.pages;
  read : AreEventsRead l.source.geometry.now l.source.height l.source.text.now l.initial.kept.changes l.kept.changes l.initial.pass l.pass
      l.fn.cursor.at l.fn.cursor.number l.place.at l.place.number;
}

abbrev pub decreases-events : goal.decreases-events
decreases-events l = length l.source.text.now - l.place.at
