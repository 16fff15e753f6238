use Rattle.std.proofs.Common.{arith}
use Rattle.std.proofs.lemmas.Result.{MatchResult-weaker}
use Rattle.vt_journal.proofs.Whole.{formed, faulty}
use Rattle.vt_journal.proofs.text.parse_journal.Goals as goal

pub returns-clause-formed : goal.returns-clause-formed
returns-clause-formed c = formed c.args.geometry.now c.args.height c.args.text.now c.read_text.result
    (omega (arith, c.read_text.ensures.limits.least_tile)) c.read_text.ensures.read

pub returns-clause-faulty : goal.returns-clause-faulty
returns-clause-faulty c = faulty c.args.geometry.now c.args.height c.args.text.now c.read_text.result
    (omega (arith, c.read_text.ensures.limits.least_tile)) c.read_text.ensures.read

pub returns-clause-ok : goal.returns-clause-ok
returns-clause-ok c = MatchResult-weaker c.read_text.result c.read_text.ensures.read (λ _ spelled. spelled) (λ _ _. tt)

pub returns-clause-refused : goal.returns-clause-refused
returns-clause-refused c = MatchResult-weaker c.read_text.result c.read_text.ensures.read (λ _ _. tt) (λ _ refused. refused)
