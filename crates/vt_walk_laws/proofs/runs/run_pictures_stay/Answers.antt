use Rattle.vt_walk.proofs.Showing.{picture_stays}
use Rattle.vt_walk_laws.proofs.runs.run_pictures_stay.Goals as goal

pub returns : goal.returns
returns c = picture_stays
