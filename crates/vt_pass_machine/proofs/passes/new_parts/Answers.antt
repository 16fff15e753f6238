use Rattle.std.proofs.Common.{sym, subst}
use Rattle.vt_pass_machine.proofs.passes.new_parts.Goals as goal

pub returns-in-Ok-clause-of : goal.returns-in-Ok-clause-of
returns-in-Ok-clause-of g c = subst (λ shared. g.T.PageTable.is_of shared c.in_ok-table.writer) (sym c.in-Ok.ensures.table) c.in_ok-table.ensures.of

pub returns-in-Ok-clause-idle : goal.returns-in-Ok-clause-idle
returns-in-Ok-clause-idle g c = c.in-Ok.ensures.idle c.in_ok-table.writer c.in_ok-table.ensures.home
