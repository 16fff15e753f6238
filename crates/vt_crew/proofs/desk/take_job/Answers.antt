use Rattle.std.proofs.Common.{rules, Some}
use Rattle.vt_crew.proofs.DeskSteps.{comes, got, regained, has_slot}
use Rattle.vt_crew.proofs.desk.take_job.Goals as goal

pub compare_exchange-turn-requires : goal.compare_exchange-turn-requires
compare_exchange-turn-requires g c = (search rules, search rules, comes g.J.Work.ready g.J.Work.did _ _ _ c.requires.waits)

pub exchange-requires : goal.exchange-requires
exchange-requires g c =
    let back = regained g.J.Work.ready g.J.Work.did _ _ _ c.if-turn-eq-HAND.true c.compare_exchange-turn.ensures.2 in
    (search rules, (Some back.0, has_slot _ _ _ back.1))

pub exchange-requires-then-turn-eq-DONE : goal.exchange-requires-then-turn-eq-DONE
exchange-requires-then-turn-eq-DONE g c =
    let back = got g.J.Work.ready g.J.Work.did _ _ _ c.if-turn-eq-DONE.true c.compare_exchange-turn.ensures.2 in
    (search rules, (Some back.0, has_slot _ _ _ back.1))
