use Rattle.vt_schedules.proofs.Ways.{all_back}
use Rattle.vt_schedules.proofs.shared.SharedSchedule.finish.Goals as goal

pub returns : goal.returns
returns g c height line samplers firsts owns rows back took ended =
    all_back height line samplers firsts owns rows c.args.home.now.pass c.wait_empty.new.pass back took c.wait_empty.ensures.same c.wait_empty.ensures.empty
