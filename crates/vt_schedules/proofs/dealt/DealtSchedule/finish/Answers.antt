use Rattle.vt_schedules.proofs.AllDealt.{all_dealt}
use Rattle.vt_schedules.proofs.dealt.DealtSchedule.finish.Goals as goal

pub returns : goal.returns
returns g c height line samplers firsts owns rows dealt took ended = all_dealt height samplers firsts owns rows dealt took ended
