use Rattle.std.proofs.Common.{rules}
use Rattle.vt_crew.proofs.DeskSteps.{leaves}
use Rattle.vt_crew.proofs.desk.leave.Goals as goal

pub store-requires : goal.store-requires
store-requires g c = (search rules, search rules, leaves g.J.Work.ready g.J.Work.did _ _ _ c.requires.free)
