use Rattle.vt_camera.proofs.LevelLemmas.{level_of_is}
use Rattle.vt_camera.proofs.laws.level_is_greatest.Goals as goal

pub returns : goal.returns
returns c = level_of_is
