use Rattle.vt_page_table.proofs.Handed.{shown_by_more}
use Rattle.vt_swap.specs.Notes.{IsSaidBy}
use Rattle.vt_swap_table.specs.LogPrefixes.{said_on}
use Rattle.vt_swap_table.proofs.laws.what_is_said_stays_said.Goals as goal

pub returns-clause-note : goal.returns-clause-note
returns-clause-note g c = said_on

pub returns-clause-row : goal.returns-clause-row
returns-clause-row g c rs ss s d version n row bytes pre =
    shown_by_more g.P.Filter.shown s d version n (IsSaidBy rs) (IsSaidBy ss) row bytes (λ note said. said_on rs ss note pre said)
