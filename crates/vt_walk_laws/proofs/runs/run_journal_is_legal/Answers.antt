use Rattle.vt_walk.proofs.RunContents.{run_is_legal, run_is_pinned}
use Rattle.vt_walk_laws.proofs.runs.run_journal_is_legal.Goals as goal

pub returns : goal.returns
returns c = record { legal = run_is_legal; pinned = run_is_pinned }
