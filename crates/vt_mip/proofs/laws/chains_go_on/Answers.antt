use Rattle.vt_mip.proofs.Following.{side_after, chains_go_on, levels_go_on}
use Rattle.vt_mip.proofs.laws.chains_go_on.Goals as goal

pub returns : goal.returns
returns c = record { words = chains_go_on; sides = side_after; levels = levels_go_on }
