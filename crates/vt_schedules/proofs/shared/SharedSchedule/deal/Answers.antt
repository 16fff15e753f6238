use Rattle.vt_schedules.proofs.Taking.{split_more}
use Rattle.vt_schedules.proofs.shared.SharedSchedule.deal.Goals as goal

pub returns-clause-dealt : goal.returns-clause-dealt
returns-clause-dealt c height line owns split number =
    split_more height line owns c.args.home.now.pass c.split.new.pass c.in_ok-pass.pass split c.in_ok-pass.ensures.splits
