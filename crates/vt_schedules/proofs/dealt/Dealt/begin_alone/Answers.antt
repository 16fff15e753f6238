use Rattle.std.proofs.Common.{[], sym, subst}
use Rattle.vt_schedules.specs.Dealt.{AreDealt}
use Rattle.vt_schedules.proofs.Dealing.{first_dealt}
use Rattle.vt_schedules.proofs.dealt.Dealt.begin_alone.Goals as goal

pub returns-clause-dealt : goal.returns-clause-dealt
returns-clause-dealt c height line samplers some are =
    subst (AreDealt height line samplers []) (sym c.in_ok-home.ensures.rows) (first_dealt height line samplers c.args.jobs.now some are)
