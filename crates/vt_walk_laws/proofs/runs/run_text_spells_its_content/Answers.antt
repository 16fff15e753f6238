use Rattle.vt_walk.proofs.RunContents.{text_spells}
use Rattle.vt_walk_laws.proofs.runs.run_text_spells_its_content.Goals as goal

pub returns : goal.returns
returns c = text_spells
