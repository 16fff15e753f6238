use Rattle.std.proofs.Common.{◌++◌, map, ap, ◌∙◌}
use Rattle.std.proofs.lemmas.Result.{IfOk-equal}
use Rattle.vt_journal.specs.declared.lines.Line.TheVariants.{Draws}
use Rattle.vt_journal.specs.Passes.{pass_of}
use Rattle.vt_journal.specs.JournalText.{event_lines, lines_text}
use Rattle.vt_journal.proofs.EventLines.{pass_whole}
use Rattle.vt_journal.proofs.Fronts.{front_of_front, front_of_three}
use Rattle.vt_journal.proofs.write.add_pass.Goals as goal

pub returns-clause-front : goal.returns-clause-front
returns-clause-front c =
    front_of_three c.args.text.now.items c.add_line.new.text.items c.add_events.new.text.items c.add_rows.new.text.items
    c.in_ok-add_line.ensures.front c.in_ok-add_events.ensures.front c.add_rows.ensures.front

pub returns-in_err-add_events-clause-front : goal.returns-in_err-add_events-clause-front
returns-in_err-add_events-clause-front c =
    front_of_front c.args.text.now.items c.add_line.new.text.items c.add_events.new.text.items
    c.in_ok-add_line.ensures.front c.in_err-add_events.ensures.front

pub returns-clause-whole : goal.returns-clause-whole
returns-clause-whole c =
    let s = c.args.geometry.now in
    let pass = pass_of c.args.pass.now in
    let spelled = c.in_ok-add_events.ensures.whole ∙ ap (λ es. c.add_line.new.text.items ++ lines_text s (event_lines pass.start es)) c.slice.ensures in
    let drawn = ap (λ rs. c.add_events.new.text.items ++ lines_text s (map Draws rs)) c.slice-2.ensures in
    IfOk-equal c.add_rows.result c.add_rows.new.text.items _ _ c.add_rows.ensures.whole
    (pass_whole s c.args.text.now.items c.add_line.new.text.items c.add_events.new.text.items _ pass c.in_ok-add_line.ensures.whole spelled drawn)
