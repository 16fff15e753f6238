use Rattle.vt_definitions.proofs.Levels.{level_count_least}
use Rattle.vt_definitions.proofs.sides.level_count_is_least.Goals as goal

pub returns : goal.returns
returns c = level_count_least
