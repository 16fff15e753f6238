use Rattle.std.proofs.Common.{◌≡◌, ◌++◌, map, take}
use Rattle.vt_journal.specs.declared.lines.Line.TheVariants.{Draws}
use Rattle.vt_journal.specs.Fronts.{IsFrontOf}
use Rattle.vt_journal.specs.JournalText.{lines_text}
use Rattle.vt_journal.proofs.write.add_rows.Given as goal

abbrev pub invariant-loop-row : goal.invariant-loop-row
invariant-loop-row l = record {
  front : IsFrontOf l.initial.text.items l.text.items;
  text : l.text.items ≡ l.initial.text.items ++ lines_text l.geometry (map Draws (take l.row-index l.rows));
}
