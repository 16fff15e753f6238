use Rattle.std.proofs.Common.{◌≡◌, ◌+◌, ◌++◌, length, take}
use Rattle.vt_journal.specs.Fronts.{IsFrontOf}
use Rattle.vt_journal.specs.JournalText.{changes_of, event_lines, lines_text}
use Rattle.vt_journal.proofs.write.add_events.Given as goal

abbrev pub invariant-loop-event : goal.invariant-loop-event
invariant-loop-event l = record {
  version : l.version ≡ l.start + length (changes_of (take l.event-index l.events));
  front : IsFrontOf l.initial.text.items l.text.items;
  text : l.text.items ≡ l.initial.text.items ++ lines_text l.geometry (event_lines l.start (take l.event-index l.events));
}
