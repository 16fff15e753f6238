use Rattle.vt_camera.proofs.LevelLemmas.{level_of_within}
use Rattle.vt_camera.proofs.laws.level_within_chain.Goals as goal

pub returns : goal.returns
returns c = level_of_within
