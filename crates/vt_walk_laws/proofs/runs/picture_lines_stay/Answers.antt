use Rattle.vt_walk.proofs.Showing.{lines_stay}
use Rattle.vt_walk_laws.proofs.runs.picture_lines_stay.Goals as goal

pub returns : goal.returns
returns c = lines_stay
