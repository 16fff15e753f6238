use Rattle.vt_walk.proofs.RunContents.{text_grows}
use Rattle.vt_walk_laws.proofs.runs.run_text_grows.Goals as goal

pub returns : goal.returns
returns c = text_grows
