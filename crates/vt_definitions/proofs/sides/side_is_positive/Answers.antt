use Rattle.vt_definitions.proofs.Levels.{side_at_least}
use Rattle.vt_definitions.proofs.sides.side_is_positive.Goals as goal

pub returns : goal.returns
returns c = side_at_least
