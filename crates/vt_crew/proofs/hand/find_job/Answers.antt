use Rattle.std.proofs.Common.{rules, Some}
use Rattle.vt_crew.proofs.DeskSteps.{looks, found, has_slot}
use Rattle.vt_crew.proofs.hand.find_job.Goals as goal

pub compare_exchange-turn-requires : goal.compare_exchange-turn-requires
compare_exchange-turn-requires g c = (search rules, search rules, looks g.J.Work.ready g.J.Work.did _ _ _ c.requires.idle)

pub exchange-requires : goal.exchange-requires
exchange-requires g c =
    let job = found g.J.Work.ready g.J.Work.did _ _ _ c.if-turn-eq-HAND.true c.compare_exchange-turn.ensures.2 in
    (search rules, (Some job.0, has_slot _ _ _ job.1))
