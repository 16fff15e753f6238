use Rattle.vt_load.proofs.Gathering.{each_once}
use Rattle.vt_load.proofs.laws.each_request_is_answered_once.Goals as goal

pub returns : goal.returns
returns g c = each_once g.F.File
