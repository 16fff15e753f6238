use Rattle.std.proofs.Common.{rules, ◌++◌, List, map, ap, ◌∙◌}
use Rattle.std.proofs.lemmas.List.{take_all}
use Rattle.vt_journal.specs.declared.changes.RowLine.{RowLine}
use Rattle.vt_journal.specs.declared.lines.Line.TheVariants.{Draws}
use Rattle.vt_journal.specs.JournalText.{lines_text}
use Rattle.vt_journal.proofs.Fronts.{front_of_front}
use Rattle.vt_journal.proofs.EventLines.{rows_more}
use Rattle.vt_journal.proofs.write.add_rows.Goals as goal

pub loop-row-preserved : goal.loop-row-preserved
loop-row-preserved c = record {
  front = front_of_front c.args.text.now.items c.loop-row.text.items c.add_line.new.text.items c.loop-row.invariant.front c.in_ok-add_line.ensures.front;
  text = rows_more c.args.geometry.now c.args.text.now.items c.loop-row.text.items c.add_line.new.text.items c.args.rows.now c.loop-row.row-index
      (record { row = 0; sampler = 0; version = 0 })
      c.loop-row-test.true c.loop-row.invariant.text c.in_ok-add_line.ensures.whole;
}

pub returns : goal.returns
returns c = record {
  whole = c.loop-row.invariant.text
      ∙ ap (λ (rs : List RowLine). c.args.text.now.items ++ lines_text c.args.geometry.now (map Draws rs))
      (take_all c.loop-row.row-index c.args.rows.now c.loop-row-test.false);
  front = c.loop-row.invariant.front;
}

pub returns-in_err-add_line : goal.returns-in_err-add_line
returns-in_err-add_line c = record {
  whole = search rules;
  front = front_of_front c.args.text.now.items c.loop-row.text.items c.add_line.new.text.items c.loop-row.invariant.front c.in_err-add_line.ensures.front;
}
