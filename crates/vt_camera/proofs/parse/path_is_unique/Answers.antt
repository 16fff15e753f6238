use Rattle.vt_camera.proofs.PathFields.{path_unique}
use Rattle.vt_camera.proofs.parse.path_is_unique.Goals as goal

pub returns : goal.returns
returns c = path_unique
