use Rattle.std.proofs.Common.{rules}
use Rattle.vt_crew.proofs.DeskSteps.{starts, splits, begins}
use Rattle.vt_crew.proofs.desk.new_desk.Goals as goal

pub vacant-requires : goal.vacant-requires
vacant-requires g c = starts g.J.Work.ready g.J.Work.did

pub split_seat-other-requires : goal.split_seat-other-requires
split_seat-other-requires g c = (search rules, search rules, splits g.J.Work.ready g.J.Work.did _ _ (search rules))

pub load-requires : goal.load-requires
load-requires g c = (search rules, search rules, begins g.J.Work.ready g.J.Work.did _ _ _ (search rules))
