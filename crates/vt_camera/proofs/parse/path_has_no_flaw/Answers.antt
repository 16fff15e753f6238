use Rattle.vt_camera.proofs.PathFlawLemmas.{no_path_flaw}
use Rattle.vt_camera.proofs.parse.path_has_no_flaw.Goals as goal

pub returns : goal.returns
returns c = no_path_flaw
