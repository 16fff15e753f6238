use Rattle.vt_text.proofs.lines.next_line.Goals as goal

pub returns-clause-place : goal.returns-clause-place
returns-clause-place c = c.next_place.ensures.place

pub returns-clause-line : goal.returns-clause-line
returns-clause-line c = c.next_place.ensures.cut
