-- What a pass's text holds, without the spare room of its lists.
use Rattle.vt_journal.specs.declared.passes.PassText.{PassText}
use Rattle.vt_journal.specs.JournalText.{Pass}

-- what the text of a pass tells
abbrev pub pass_of : PassText → Pass
pass_of p = record { pass = p.pass; picture = p.picture; start = p.start; events = p.events.elements; rows = p.rows.elements }
