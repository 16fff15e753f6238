use Rattle.vt_crew.proofs.DeskSteps.{is_empty, not_there}
use Rattle.vt_crew.proofs.desk.close.Goals as goal

pub unreachable-requires : goal.unreachable-requires
unreachable-requires g c =
    let empty = is_empty g.J.Work.ready g.J.Work.did _ _ _ _ c.requires.left c.close_with-closed.ensures.values.2 in
    not_there g.J.Work.ready g.J.Work.did c.take.result c.in-Some.field-0 _ empty c.take.ensures.value c.in-Some.is
