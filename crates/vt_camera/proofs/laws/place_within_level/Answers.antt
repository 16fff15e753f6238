use Rattle.vt_camera.proofs.LevelLemmas.{inside_level}
use Rattle.vt_camera.proofs.laws.place_within_level.Goals as goal

pub returns : goal.returns
returns c = inside_level
