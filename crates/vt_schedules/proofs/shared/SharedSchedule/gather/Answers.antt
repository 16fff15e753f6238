use Rattle.std.proofs.Common.{sym, ◌∙◌}
use Rattle.vt_schedules.proofs.Ways.{way_back}
use Rattle.vt_schedules.proofs.shared.SharedSchedule.gather.Goals as goal

pub returns-clause-gathered : goal.returns-clause-gathered
returns-clause-gathered c height line samplers firsts owns back =
    way_back height line firsts owns c.args.home.now.pass c.join.new.into c.in-Some.pass c.args.own.now back
    (sym c.replace-pass.ensures.value ∙ c.in-Some.is) c.join.ensures.joined
