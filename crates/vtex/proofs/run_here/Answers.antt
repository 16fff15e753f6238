use Rattle.std.proofs.Common.{Err, refl, ap, ◌∙◌}
use Rattle.vt_top_call.proofs.Clauses.{run_unread}
use Rattle.vtex.proofs.run_here.Goals as goal

pub returns-in-Err-clause-run : goal.returns-in-Err-clause-run
returns-in-Err-clause-run g c =
    run_unread _ c.refuse_unread.result c.in-Err.error (record { folder = refl; out = refl })
    (λ is. c.read_command.ensures.usage (c.in-Err.is ∙ ap Err is)) c.refuse_unread.ensures.status c.refuse_unread.ensures.printed
