use Rattle.vt_camera.proofs.PathFlawLemmas.{path_flaw_unique}
use Rattle.vt_camera.proofs.parse.path_flaw_is_unique.Goals as goal

pub returns : goal.returns
returns c = path_flaw_unique
