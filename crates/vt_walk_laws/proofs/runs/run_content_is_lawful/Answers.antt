use Rattle.vt_walk.proofs.RunContents.{run_is_lawful, spelled_changes}
use Rattle.vt_walk_laws.proofs.runs.run_content_is_lawful.Goals as goal

pub returns : goal.returns
returns c = record { lawful = run_is_lawful; changes = spelled_changes }
